-- The list that is made of vectors covers what they cover.
use Rattle.std.proofs.Common.{◌≡◌, Bool, true, false, ◌||◌, List, [], ◌∷◌, refl, sym, ◌∙◌, ap, subst}
use Rattle.std.specs.Prelude.{ℤ}
use Rattle.std.specs.List.{list_any, list_all}
use Rattle.std.proofs.lemmas.List.Elements.{All-from_recursion, recursion_from_All}
use Rattle.word_core.specs.declared.names.Kind.{Kind}
use Rattle.word_core.specs.declared.names.Kind.TheVariants.{First, Second}
use Rattle.antichain_list.specs.Antichain.{IsAntichain, covered, added}
use Rattle.antichain_list.specs.Covering.{covered-added}
use Rattle.counter_vec.specs.Counters.{at_or_below, lexicographic}
use Rattle.counter_vec.specs.Orders.{counters_order}
use Rattle.game_form.specs.Game.{GameData}
use Rattle.game_form.specs.Vector.{IsVector, initial, successor}
use Rattle.cpre_step.specs.Refinement.{answers, answers_by}
use Rattle.game_core.specs.Board.{puts}
use Rattle.game_core.specs.Solved.{IsClosed, IsSettled}
use Rattle.game_core.proofs.Exact.{has_held_puts}
use Rattle.game_core.proofs.Kept.{all_puts}

or_assoc : (a b c : Bool) → ((a || b) || c) ≡ (a || (b || c))
or_assoc true b c = refl
or_assoc false b c = refl

or_false : (b : Bool) → b ≡ (b || false)
or_false true = refl
or_false false = refl

pub covered-puts : (u : List ℤ) (list vectors : List (List ℤ)) → covered at_or_below u (puts list vectors) ≡ (covered at_or_below u list || covered at_or_below u vectors)
covered-puts u list [] = or_false (covered at_or_below u list)
covered-puts u list (v ∷ vectors) =
    covered-puts u (added at_or_below lexicographic v list) vectors
    ∙ ap (λ b. b || covered at_or_below u vectors) (covered-added at_or_below lexicographic counters_order u v list)
    ∙ or_assoc (covered at_or_below u list) (at_or_below u v) (covered at_or_below u vectors)

any_same : {X : Type 0} (p q : X → Bool) (xs : List X) → ((x : X) → p x ≡ q x) → list_any p xs ≡ list_any q xs
any_same p q [] h = refl
any_same p q (x ∷ xs) h = rw (h x, any_same p q xs h)

all_same : {X : Type 0} (p q : X → Bool) (xs : List X) → ((x : X) → p x ≡ q x) → list_all p xs ≡ list_all q xs
all_same p q [] h = refl
all_same p q (x ∷ xs) h = rw (h x, all_same p q xs h)

-- what a player can answer depends on what the list covers
answers_same_by : (kind : Kind) (g : GameData) (a b : List (List ℤ)) (f : List ℤ) → ((u : List ℤ) → covered at_or_below u a ≡ covered at_or_below u b) → answers_by kind g a f ≡ answers_by kind g b f
answers_same_by First g a b f h = any_same _ _ g.classes (λ c. all_same _ _ c.options (λ o. h (successor g o.0 f)))
answers_same_by Second g a b f h = all_same _ _ g.classes (λ c. any_same _ _ c.options (λ o. h (successor g o.0 f)))

pub answers_same : (g : GameData) (a b : List (List ℤ)) (f : List ℤ) → ((u : List ℤ) → covered at_or_below u a ≡ covered at_or_below u b) → answers g a f ≡ answers g b f
answers_same g a b f h = answers_same_by g.kind g a b f h

-- a settled list of vectors, as a downset lists them
pub settled_puts : (g : GameData) (whole : Bool) (vectors list : List (List ℤ)) → IsSettled g whole vectors → list ≡ puts [] vectors → IsAntichain at_or_below lexicographic list → IsSettled g whole list
settled_puts g whole vectors list h is ascends =
    subst (IsSettled g whole) (sym is) (record {
      vectors = all_puts (IsVector g) [] vectors tt h.vectors;
      closed = All-from_recursion Stays (puts [] vectors) (all_puts Stays [] vectors tt (recursion_from_All Stays vectors (λ k d lt. answers_same g (puts [] vectors) vectors _ same ∙ h.closed k d lt)));
      largest = λ other (closed : IsClosed g other) k d lt. same _ ∙ h.largest other closed k d lt;
      exact = λ letters covering. has_held_puts g vectors (h.exact letters covering) (subst (IsAntichain at_or_below lexicographic) is ascends) same;
      begins = λ asked. same (initial g) ∙ h.begins asked;
    })
  where
    same : (u : List ℤ) → covered at_or_below u (puts [] vectors) ≡ covered at_or_below u vectors
    same u = covered-puts u [] vectors

    Stays : List ℤ → Type 0
    Stays f = answers g (puts [] vectors) f ≡ true
