-- Numbers in turn.
use Rattle.std.proofs.Common.{◌≡◌, ℕ, ◌+◌, ◌<◌, ◌≤◌, Bool, true, false, max, nat_lt, List, [], ◌∷◌, ◌++◌, length, get_or, refl, sym, ◌∙◌, ap, subst, arith}
use Rattle.std.specs.List.{All, AllZip, Contains}
use Rattle.std.proofs.lemmas.Bool.{ltb-true, ltb-false}
use Rattle.std.proofs.lemmas.List.Elements.{All-nil, All-cons, Contains-append_right}
use Rattle.strategy_play.specs.Walk.{InTurn}

pub turns_rise : (a : ℕ) (ns : List ℕ) (b : ℕ) → InTurn a ns b → a ≤ b
turns_rise a [] b t = omega (arith, t)
turns_rise a (n ∷ ns) b t = let r = turns_rise (max a (n + 1)) ns b t.1 in omega (arith, r)

pub turns_end : (a : ℕ) (ns : List ℕ) (b c : ℕ) → InTurn a ns b → InTurn a ns c → b ≡ c
turns_end a [] b c t u = t ∙ sym u
turns_end a (n ∷ ns) b c t u = turns_end (max a (n + 1)) ns b c t.1 u.1

-- numbers in turn in two parts
pub turns_parts : (a : ℕ) (ns ms : List ℕ) (c : ℕ) → InTurn a (ns ++ ms) c → (b : ℕ) × InTurn a ns b × InTurn b ms c
turns_parts a [] ms c t = (a, refl, t)
turns_parts a (n ∷ ns) ms c t = let r = turns_parts (max a (n + 1)) ns ms c t.1 in (r.0, (t.0, r.1), r.2)

pub turns_below : (a : ℕ) (ns : List ℕ) (b : ℕ) → InTurn a ns b → All (λ n. n < b) ns
turns_below a [] b t = All-nil (λ n. n < b)
turns_below a (n ∷ ns) b t =
    let r = turns_rise (max a (n + 1)) ns b t.1 in
    All-cons (λ n. n < b) n ns (omega (arith, r)) (turns_below (max a (n + 1)) ns b t.1)

-- each number from the first count on is there
pub turns_have : (a : ℕ) (ns : List ℕ) (b s : ℕ) → InTurn a ns b → a ≤ s → s < b → Contains ns s
turns_have a [] b s t from below = absurd (omega (arith, t))
turns_have a (n ∷ ns) b s t from below = by (nat_lt s (max a (n + 1))) refl (turns_have (max a (n + 1)) ns b s t.1)
  where
    by : (c : Bool) → nat_lt s (max a (n + 1)) ≡ c → (max a (n + 1) ≤ s → s < b → Contains ns s) → Contains (n ∷ ns) s
    by true e rest =
        let less : s < max a (n + 1) = ltb-true s (max a (n + 1)) e in
        let here : n ≡ s = omega (arith, less, t.0) in
        (0, omega arith, here)
    by false e rest = Contains-append_right (n ∷ []) ns s (rest (ltb-false s (max a (n + 1)) e) below)

-- numbers in turn that name the same members of two lists, each member once, are the same
module _ (order others : List ℕ) (once : (i j : ℕ) → i < length order → j < length order → get_or order i 0 ≡ get_or order j 0 → i ≡ j)
    (once_too : (i j : ℕ) → i < length others → j < length others → get_or others i 0 ≡ get_or others j 0 → i ≡ j) where
  abbrev pub Agree : ℕ → Type 0
  Agree count = (i : ℕ) → i < count → get_or order i 0 ≡ get_or others i 0

  one_number : (a n m : ℕ) → Agree a → n ≤ a → m ≤ a → n < length order → a ≤ length order → m < length others → a ≤ length others → get_or order n 0 ≡ get_or others m 0 → n ≡ m
  one_number a n m agree n_in m_in ln la lm la' same = by (nat_lt n a) refl (nat_lt m a) refl
    where
      by : (b : Bool) → nat_lt n a ≡ b → (c : Bool) → nat_lt m a ≡ c → n ≡ m
      by true e c h = let less = ltb-true n a e in once_too n m (omega (arith, less)) lm (sym (agree n less) ∙ same)
      by false e true h = let less = ltb-true m a h in once n m ln (omega (arith, less)) (same ∙ sym (agree m less))
      by false e false h = omega (arith, ltb-false n a e, ltb-false m a h)

  pub one_turn : (a : ℕ) (ns ms : List ℕ) (b c : ℕ) → InTurn a ns b → InTurn a ms c → b ≤ length order → c ≤ length others → AllZip (λ n m. get_or order n 0 ≡ get_or others m 0) ns ms → Agree a → (ns ≡ ms) × Agree b
  one_turn a [] [] b c t u lb lc zip agree = (refl, subst Agree (sym t) agree)
  one_turn a [] (m ∷ ms) b c t u lb lc zip agree = absurd zip
  one_turn a (n ∷ ns) [] b c t u lb lc zip agree = absurd zip
  one_turn a (n ∷ ns) (m ∷ ms) b c t u lb lc zip agree =
      let n_rise = turns_rise (max a (n + 1)) ns b t.1 in
      let m_rise = turns_rise (max a (m + 1)) ms c u.1 in
      let same : n ≡ m =
      one_number a n m agree t.0 u.0 (omega (arith, n_rise, lb)) (omega (arith, n_rise, lb)) (omega (arith, m_rise, lc)) (omega (arith, m_rise, lc)) zip.0 in
      let rest = one_turn (max a (n + 1)) ns ms b c t.1 (subst (λ k. InTurn (max a (k + 1)) ms c) (sym same) u.1) lb lc zip.1 (more same) in
      (ap (λ k. k ∷ ns) same ∙ ap (λ ks. m ∷ ks) rest.0, rest.1)
    where
      more : n ≡ m → Agree (max a (n + 1))
      more same i lt = by (nat_lt i a) refl
        where
          by : (b : Bool) → nat_lt i a ≡ b → get_or order i 0 ≡ get_or others i 0
          by true e = agree i (ltb-true i a e)
          by false e =
              let at : n ≡ i = omega (arith, ltb-false i a e, lt, t.0) in
              subst (λ k. get_or order k 0 ≡ get_or others k 0) at (zip.0 ∙ ap (λ k. get_or others k 0) (sym same))
