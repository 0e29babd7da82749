-- Numbers in sets: the place of an equal element, or the next one.
use Rattle.std.proofs.Common.{◌≡◌, ℕ, ◌+◌, ◌<◌, Bool, true, false, not, cond, eqb, ◌&&◌, ◌||◌, Vec, Global, List, [], ◌∷◌, ◌++◌, length, get_or, map, inl, inr, refl, sym, ◌∙◌, ap, subst, arith}
use Rattle.std.specs.Bool.{Decides, beq}
use Rattle.std.specs.List.{list_any, position_or_len}
use Rattle.std.specs.Cmp.Lexicographic.{pointwise}
use Rattle.std.proofs.lemmas.Bool.{and_parts}
use Rattle.std.proofs.lemmas.Bool.Decides.{Decides-eqb}
use Rattle.std.proofs.lemmas.List.{get_or-map, length-map, map-append}
use Rattle.std.proofs.lemmas.List.Sums.{passes_at_first}
use Rattle.std.proofs.lemmas.Slice.Eq.{slice_eq-Decides}
use Rattle.indexmap.specs.IndexSet.{insert_key}
use Rattle.word_core.specs.declared.cubes.Cube.{Cube}
use Rattle.nba_quotient.specs.Kinds.{kind_of}
use Rattle.nba_quotient.specs.Ways.{Way, IsNumberOf}

false≢true : false ≡ true → ⊥
false≢true e = cc

module _ {X : Type 0} (p : X → Bool) where
  at : (b : Bool) (x : X) (xs : List X) → p x ≡ b → position_or_len p (x ∷ xs) ≡ cond (not b) (1 + position_or_len p xs) 0
  at b x xs e = ap (λ t. cond (not t) (1 + position_or_len p xs) 0) e

  some : (b : Bool) (x : X) (xs : List X) → p x ≡ b → list_any p (x ∷ xs) ≡ (b || list_any p xs)
  some b x xs e = ap (λ t. t || list_any p xs) e

  found : (xs : List X) → list_any p xs ≡ true → position_or_len p xs < length xs
  found [] h = absurd (false≢true h)
  found (x ∷ xs) h = by (p x) refl (found xs)
    where
      by : (b : Bool) → p x ≡ b → (list_any p xs ≡ true → position_or_len p xs < length xs) → position_or_len p (x ∷ xs) < length (x ∷ xs)
      by true e rest = let z = at true x xs e in omega arith
      by false e rest =
          let z = at false x xs e in
          let l = rest (sym (some false x xs e) ∙ h) in
          omega arith

  absent : (xs : List X) → list_any p xs ≡ false → position_or_len p xs ≡ length xs
  absent [] h = refl
  absent (x ∷ xs) h = by (p x) refl (absent xs)
    where
      by : (b : Bool) → p x ≡ b → (list_any p xs ≡ false → position_or_len p xs ≡ length xs) → position_or_len p (x ∷ xs) ≡ length (x ∷ xs)
      by true e rest = absurd (false≢true (sym h ∙ some true x xs e))
      by false e rest =
          let z = at false x xs e in
          let l = rest (sym (some false x xs e) ∙ h) in
          omega arith

module _ (eq : ℕ × Vec Way Global → ℕ × Vec Way Global → Bool) (same : (x y : ℕ × Vec Way Global) → eq x y ≡ true → kind_of x ≡ kind_of y) where
  pub number_is : (old new : List (ℕ × Vec Way Global)) (x : ℕ × Vec Way Global) (n : ℕ) → new ≡ insert_key eq old x → n ≡ position_or_len (eq x) old
      → IsNumberOf (map kind_of old) (map kind_of new) (kind_of x) n
  number_is old new x n is at = by (list_any (eq x) old) refl is
    where
      by : (b : Bool) → list_any (eq x) old ≡ b → new ≡ cond b old (old ++ x ∷ []) → IsNumberOf (map kind_of old) (map kind_of new) (kind_of x) n
      by true e h =
          let l : n < length old = subst (λ k. k < length old) (sym at) (found (eq x) old e) in
          let passes : eq x (get_or old (position_or_len (eq x) old) x) ≡ true = passes_at_first (eq x) old x (found (eq x) old e) in
          let here : kind_of (get_or old n x) ≡ kind_of x = ap (λ k. kind_of (get_or old k x)) at ∙ sym (same x (get_or old (position_or_len (eq x) old) x) passes) in
          inl (ap (map kind_of) h, omega (arith, length-map old kind_of), get_or-map kind_of old n x (kind_of x) l ∙ here)
      by false e h = inr (ap (map kind_of) h ∙ map-append kind_of old (x ∷ []), at ∙ absent (eq x) old e ∙ sym (length-map old kind_of))

bools_decide : (m n : Bool) → Decides (beq m n) (m ≡ n)
bools_decide false false = (λ e. refl, λ e. refl)
bools_decide false true = (λ e. absurd (cc), λ e. absurd (cc))
bools_decide true false = (λ e. absurd (cc), λ e. absurd (cc))
bools_decide true true = (λ e. refl, λ e. refl)

cubes_decide : (p q : Cube) → Decides (eqb p.care q.care && eqb p.want q.want) (p ≡ q)
cubes_decide p q = (
  λ e.
      let parts = and_parts (eqb p.care q.care) (eqb p.want q.want) e in
      let care : p.care ≡ q.care = (Decides-eqb p.care q.care).0 parts.0 in
      let want : p.want ≡ q.want = (Decides-eqb p.want q.want).0 parts.1 in
      ap (λ (x : ℕ). record { care = x; want = p.want }) care ∙ ap (λ (y : ℕ). record { care = q.care; want = y }) want,
  λ e.
      let care : eqb p.care q.care ≡ true = (Decides-eqb p.care q.care).1 (ap (λ (x : Cube). x.care) e) in
      let want : eqb p.want q.want ≡ true = (Decides-eqb p.want q.want).1 (ap (λ (x : Cube). x.want) e) in
      ap (λ b. b && eqb p.want q.want) care ∙ want,
)

abbrev same_ways : Way → Way → Bool
same_ways p q = ((eqb p.0 q.0 && eqb p.1 q.1) && beq p.2 q.2) && (eqb p.3.care q.3.care && eqb p.3.want q.3.want)

ways_decide : (p q : Way) → Decides (same_ways p q) (p ≡ q)
ways_decide p q = (
  λ e.
      let all = and_parts ((eqb p.0 q.0 && eqb p.1 q.1) && beq p.2 q.2) (eqb p.3.care q.3.care && eqb p.3.want q.3.want) e in
      let three = and_parts (eqb p.0 q.0 && eqb p.1 q.1) (beq p.2 q.2) all.0 in
      let two = and_parts (eqb p.0 q.0) (eqb p.1 q.1) three.0 in
      let first : p.0 ≡ q.0 = (Decides-eqb p.0 q.0).0 two.0 in
      let second : p.1 ≡ q.1 = (Decides-eqb p.1 q.1).0 two.1 in
      let third : p.2 ≡ q.2 = (bools_decide p.2 q.2).0 three.1 in
      let fourth : p.3 ≡ q.3 = (cubes_decide p.3 q.3).0 all.1 in
      ap (λ (x : ℕ). (x, p.1, p.2, p.3)) first ∙ ap (λ (x : ℕ). (q.0, x, p.2, p.3)) second ∙ ap (λ (x : Bool). (q.0, q.1, x, p.3)) third ∙ ap (λ (x : Cube). (q.0, q.1, q.2, x)) fourth,
  λ e.
      let first : eqb p.0 q.0 ≡ true = (Decides-eqb p.0 q.0).1 (ap (λ (x : Way). x.0) e) in
      let second : eqb p.1 q.1 ≡ true = (Decides-eqb p.1 q.1).1 (ap (λ (x : Way). x.1) e) in
      let third : beq p.2 q.2 ≡ true = (bools_decide p.2 q.2).1 (ap (λ (x : Way). x.2) e) in
      let fourth : (eqb p.3.care q.3.care && eqb p.3.want q.3.want) ≡ true = (cubes_decide p.3 q.3).1 (ap (λ (x : Way). x.3) e) in
      let two : (eqb p.0 q.0 && eqb p.1 q.1) ≡ true = ap (λ b. b && eqb p.1 q.1) first ∙ second in
      let three : ((eqb p.0 q.0 && eqb p.1 q.1) && beq p.2 q.2) ≡ true = ap (λ b. b && beq p.2 q.2) two ∙ third in
      ap (λ b. b && (eqb p.3.care q.3.care && eqb p.3.want q.3.want)) three ∙ fourth,
)

pub same_kind : (x y : ℕ × Vec Way Global) → (eqb x.0 y.0 && pointwise same_ways x.1.items y.1.items) ≡ true → kind_of x ≡ kind_of y
same_kind x y h =
    let two = and_parts (eqb x.0 y.0) (pointwise same_ways x.1.items y.1.items) h in
    let class : x.0 ≡ y.0 = (Decides-eqb x.0 y.0).0 two.0 in
    let ways : x.1.items ≡ y.1.items = (slice_eq-Decides ways_decide x.1.items y.1.items _ refl).0 two.1 in
    ap (λ (c : ℕ). (c, x.1.items)) class ∙ ap (λ (w : List Way). (y.0, w)) ways
