-- A chain of operands, one more at a time.
use Rattle.std.proofs.Common.{◌≡◌, ℕ, ◌+◌, ◌<◌, List, [], ◌∷◌, length, fold, map, take, get_or, refl, ap, ◌∙◌}
use Rattle.std.proofs.lemmas.List.{take_more, map-append}
use Rattle.std.proofs.lemmas.Grind.{fold-append}
use Rattle.ltl_form.specs.declared.formulas.Ltl.{Ltl}
use Rattle.ltl_form.specs.declared.forms.Form.{Form}
use Rattle.ltl_form.specs.declared.forms.Pair.{Pair}
use Rattle.ltl_form.specs.Tree.{Sides, sides}
use Rattle.ltl_form.specs.Form.{MadePair, IsPairBelow, Keeps, sides_at}
use Rattle.ltl_form.proofs.Trees.{keeps_both}

module _ (op : Sides → Sides → Sides) (start : Sides) where
  pub chain_more : (fs : List Ltl) (i : ℕ) (d : Ltl) → i < length fs
      → fold op start (map sides (take (i + 1) fs)) ≡ op (fold op start (map sides (take i fs))) (sides (get_or fs i d))
  chain_more fs i d h =
      ap (λ l. fold op start (map sides l)) (take_more fs i d h)
      ∙ ap (fold op start) (map-append sides (take i fs) (get_or fs i d ∷ []))
      ∙ fold-append op start (map sides (take i fs)) (sides (get_or fs i d) ∷ [])

pub sides_stay : (old new : List Form) (p : Pair) → Keeps old new → IsPairBelow (length old) p → sides_at new p ≡ sides_at old p
sides_stay old new p keeps below = rw (keeps.same p.positive below.0, keeps.same p.negative below.1) refl

-- two formulas are made, one after the other, and then one of both
pub made_chain : (op : Sides → Sides → Sides) (a b c e : List Form) (w p v : Pair) (s t : Sides)
    → MadePair a b w s → MadePair b c p t → MadePair c e v (op (sides_at c w) (sides_at c p)) → MadePair a e v (op s t)
made_chain op a b c e w p v s t f g h = record {
  keeps = keeps_both a c e (keeps_both a b c f.keeps g.keeps) h.keeps;
  places = h.places;
  is = h.is ∙ ap (λ x. op x (sides_at c p)) (sides_stay b c w g.keeps f.places ∙ f.is) ∙ ap (op s) g.is;
}
