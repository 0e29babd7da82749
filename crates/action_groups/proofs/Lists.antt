-- Lists that are put into a set.
use Rattle.std.proofs.Common.{◌≡◌, ℕ, zero, suc, ◌<◌, ◌+◌, Bool, true, false, cond, eqb, ◌&&◌, List, [], ◌∷◌, ◌++◌, length, get_or, map, take, Some, refl, sym, ap, ◌∙◌, subst, arith}
use Rattle.std.specs.Prelude.{Vec, slice_get}
use Rattle.std.specs.Bool.{Decides, beq}
use Rattle.std.specs.List.{All}
use Rattle.std.specs.Cmp.Lexicographic.{pointwise}
use Rattle.std.specs.declared.alloc.Global.{Global}
use Rattle.std.proofs.lemmas.Bool.{and_parts}
use Rattle.std.proofs.lemmas.Bool.Decides.{Decides-eqb}
use Rattle.std.proofs.lemmas.List.{take_more, map-append}
use Rattle.std.proofs.lemmas.List.Elements.{All-push}
use Rattle.std.proofs.lemmas.Slice.Eq.{slice_eq-Decides}
use Rattle.game_form.specs.Game.{ClassData}
use Rattle.action_groups.specs.Listing.{class_from}
use Rattle.action_groups.specs.Lists.{items_at, KeepsLists}
use Rattle.action_groups.proofs.Splits.{lists_self, lists_append}

pub pair_decides : (p q : ℕ × ℕ) → Decides (eqb p.0 q.0 && eqb p.1 q.1) (p ≡ q)
pair_decides p q = (
  λ e. (
      let parts = and_parts (eqb p.0 q.0) (eqb p.1 q.1) e in
      let first : p.0 ≡ q.0 = (Decides-eqb p.0 q.0).0 parts.0 in
      let second : p.1 ≡ q.1 = (Decides-eqb p.1 q.1).0 parts.1 in
      ap (λ (x : ℕ). (x, p.1)) first ∙ ap (λ (y : ℕ). (q.0, y)) second),
  λ e.
      let first : eqb p.0 q.0 ≡ true = (Decides-eqb p.0 q.0).1 (ap (λ (x : ℕ × ℕ). x.0) e) in
      let second : eqb p.1 q.1 ≡ true = (Decides-eqb p.1 q.1).1 (ap (λ (x : ℕ × ℕ). x.1) e) in
      ap (λ b. b && eqb p.1 q.1) first ∙ second,
)

got_items : {X : Type 0} (lists : List (Vec X Global)) (c : ℕ) (x : Vec X Global) → slice_get lists c ≡ Some x → items_at lists c ≡ x.items
got_items [] c x e = absurd (cc)
got_items {X} (o ∷ lists) zero x e = (let f : o ≡ x = cc in ap (λ (v : Vec X Global). v.items) f)
got_items (o ∷ lists) (suc c) x e = got_items lists c x e

pub stored_options : (lists : List (Vec (ℕ × ℕ) Global)) (c : ℕ) (x : Vec (ℕ × ℕ) Global) (options : List (ℕ × ℕ)) → slice_get lists c ≡ Some x → pointwise (λ (p q : ℕ × ℕ). eqb p.0 q.0 && eqb p.1 q.1) options x.items ≡ true → items_at lists c ≡ options
stored_options lists c x options e t = got_items lists c x e ∙ sym ((slice_eq-Decides pair_decides options x.items _ refl).0 t)

pub bools_decide : (m n : Bool) → Decides (beq m n) (m ≡ n)
bools_decide false false = (λ e. refl, λ e. refl)
bools_decide false true = (λ e. absurd (cc), λ e. absurd (cc))
bools_decide true false = (λ e. absurd (cc), λ e. absurd (cc))
bools_decide true true = (λ e. refl, λ e. refl)

pub step_decides : (p q : ℕ × ℕ × Bool) → Decides ((eqb p.0 q.0 && eqb p.1 q.1) && beq p.2 q.2) (p ≡ q)
step_decides p q = (
  λ e. (
      let whole = and_parts (eqb p.0 q.0 && eqb p.1 q.1) (beq p.2 q.2) e in
      let parts = and_parts (eqb p.0 q.0) (eqb p.1 q.1) whole.0 in
      let first : p.0 ≡ q.0 = (Decides-eqb p.0 q.0).0 parts.0 in
      let second : p.1 ≡ q.1 = (Decides-eqb p.1 q.1).0 parts.1 in
      let third : p.2 ≡ q.2 = (bools_decide p.2 q.2).0 whole.1 in
      ap (λ (x : ℕ). (x, p.1, p.2)) first ∙ ap (λ (y : ℕ). (q.0, y, p.2)) second ∙ ap (λ (z : Bool). (q.0, q.1, z)) third),
  λ e.
      let first : eqb p.0 q.0 ≡ true = (Decides-eqb p.0 q.0).1 (ap (λ (x : ℕ × ℕ × Bool). x.0) e) in
      let second : eqb p.1 q.1 ≡ true = (Decides-eqb p.1 q.1).1 (ap (λ (x : ℕ × ℕ × Bool). x.1) e) in
      let third : beq p.2 q.2 ≡ true = (bools_decide p.2 q.2).1 (ap (λ (x : ℕ × ℕ × Bool). x.2) e) in
      ap (λ b. (b && eqb p.1 q.1) && beq p.2 q.2) first ∙ ap (λ b. b && beq p.2 q.2) second ∙ third,
)

pub stored_steps : (lists : List (Vec (ℕ × ℕ × Bool) Global)) (c : ℕ) (x : Vec (ℕ × ℕ × Bool) Global) (steps : List (ℕ × ℕ × Bool)) → slice_get lists c ≡ Some x → pointwise (λ (p q : ℕ × ℕ × Bool). (eqb p.0 q.0 && eqb p.1 q.1) && beq p.2 q.2) steps x.items ≡ true → items_at lists c ≡ steps
stored_steps lists c x steps e t = got_items lists c x e ∙ sym ((slice_eq-Decides step_decides steps x.items _ refl).0 t)

pub all_inserted : {X : Type 0} (P : X → Type 0) (lists now : List X) (new : X) (b : Bool) → now ≡ cond b lists (lists ++ new ∷ []) → All P lists → P new → All P now
all_inserted P lists now new true e h p = subst (All P) (sym e) h
all_inserted P lists now new false e h p = subst (All P) (sym e) (All-push P lists new h p)

pub lists_inserted : {X : Type 0} (lists now : List (Vec X Global)) (new : Vec X Global) (b : Bool) → now ≡ cond b lists (lists ++ new ∷ []) → KeepsLists lists now
lists_inserted lists now new true e = subst (KeepsLists lists) (sym e) (lists_self lists)
lists_inserted lists now new false e = subst (KeepsLists lists) (sym e) (lists_append lists (new ∷ []))

pub read_items : {X : Type 0} (lists : List (Vec X Global)) (c : ℕ) (x : Vec X Global) → c < length lists → x ≡ get_or lists c x → items_at lists c ≡ x.items
read_items [] c x lt e = absurd (omega arith)
read_items {X} (o ∷ lists) zero x lt e = ap (λ (v : Vec X Global). v.items) (sym e)
read_items (o ∷ lists) (suc c) x lt e = read_items lists c x (omega arith) e

-- one more class
pub class_more : (lists : List (Vec (ℕ × ℕ) Global)) (numbers : List ℕ) (order : List (ℕ × ℕ)) (i : ℕ) (out now : List ClassData) (new : ClassData) → i < length order → out ≡ map (class_from lists numbers) (take i order) → now ≡ out ++ new ∷ [] → new ≡ class_from lists numbers (get_or order i (0, 0)) → now ≡ map (class_from lists numbers) (take (i + 1) order)
class_more lists numbers order i out now new lt eo en ec =
    let f : ℕ × ℕ → ClassData = class_from lists numbers in
    let p : ℕ × ℕ = get_or order i (0, 0) in
    let more : take (i + 1) order ≡ take i order ++ p ∷ [] = take_more order i (0, 0) lt in
    en
    ∙ ap (λ (l : List ClassData). l ++ new ∷ []) eo
    ∙ ap (λ (x : ClassData). map f (take i order) ++ x ∷ []) ec
    ∙ sym (ap (λ (l : List (ℕ × ℕ)). map f l) more ∙ map-append f (take i order) (p ∷ []))
