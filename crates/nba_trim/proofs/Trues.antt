-- Lists of truth values: how many are true.
use Rattle.std.proofs.Common.{◌≡◌, ℕ, zero, suc, ◌+◌, ◌<◌, ◌≤◌, Bool, true, false, if◌then◌else◌, List, [], ◌∷◌, ◌++◌, length, set, take, replicate, refl, ap, ◌∙◌, arith}
use Rattle.std.proofs.lemmas.List.{take_more}
use Rattle.nba_trim.specs.Search.{at, trues}

pub trues_set : (bs : List Bool) (q : ℕ) → q < length bs → at bs q ≡ false → trues (set bs q true) ≡ suc (trues bs)
trues_set [] q l h = absurd (omega arith)
trues_set (true ∷ bs) zero l h = absurd (cc)
trues_set (false ∷ bs) zero l h = refl
trues_set (true ∷ bs) (suc q) l h = ap suc (trues_set bs q (omega arith) h)
trues_set (false ∷ bs) (suc q) l h = trues_set bs q (omega arith) h

pub trues_low : (bs : List Bool) → trues bs ≤ length bs
trues_low [] = omega arith
trues_low (true ∷ bs) = let h = trues_low bs in omega arith
trues_low (false ∷ bs) = let h = trues_low bs in omega arith

pub trues_none : (n : ℕ) → trues (replicate n false) ≡ 0
trues_none zero = refl
trues_none (suc n) = trues_none n

pub none_true : (n q : ℕ) → at (replicate n false) q ≡ false
none_true zero q = refl
none_true (suc n) zero = refl
none_true (suc n) (suc q) = none_true n q

pub true_within : (bs : List Bool) (q : ℕ) → at bs q ≡ true → q < length bs
true_within [] q h = absurd (cc)
true_within (b ∷ bs) zero h = omega arith
true_within (b ∷ bs) (suc q) h = let l = true_within bs q h in omega arith

pub all_true_at : (n q : ℕ) → q < n → at (replicate n true) q ≡ true
all_true_at zero q l = absurd (omega arith)
all_true_at (suc n) zero l = refl
all_true_at (suc n) (suc q) l = all_true_at n q (omega arith)

trues_join : (xs bs : List Bool) → trues (xs ++ bs) ≡ trues xs + trues bs
trues_join [] bs = omega arith
trues_join (true ∷ xs) bs = let h = trues_join xs bs in omega arith
trues_join (false ∷ xs) bs = trues_join xs bs

pub trues_more : (bs : List Bool) (i : ℕ) → i < length bs → trues (take (i + 1) bs) ≡ trues (take i bs) + (if at bs i then 1 else 0)
trues_more bs i l = ap trues (take_more bs i false l) ∙ trues_join (take i bs) (at bs i ∷ []) ∙ ap (λ n. trues (take i bs) + n) (one (at bs i))
  where
    one : (b : Bool) → trues (b ∷ []) ≡ (if b then 1 else 0)
    one true = refl
    one false = refl

-- fewer where each that is true is true of the other too
trues_fewer : (xs bs : List Bool) → length xs ≡ length bs → ((q : ℕ) → at xs q ≡ true → at bs q ≡ true) → trues xs ≤ trues bs
trues_fewer [] [] e h = omega arith
trues_fewer [] (b ∷ bs) e h = absurd (omega arith)
trues_fewer (a ∷ xs) [] e h = absurd (omega arith)
trues_fewer (true ∷ xs) (true ∷ bs) e h = let r = trues_fewer xs bs (omega arith) (λ q. h (suc q)) in omega arith
trues_fewer (true ∷ xs) (false ∷ bs) e h = let k : false ≡ true = h 0 refl in absurd (cc)
trues_fewer (false ∷ xs) (true ∷ bs) e h = let r = trues_fewer xs bs (omega arith) (λ q. h (suc q)) in omega arith
trues_fewer (false ∷ xs) (false ∷ bs) e h = trues_fewer xs bs (omega arith) (λ q. h (suc q))

pub trues_all : (xs bs : List Bool) → length xs ≡ length bs → ((q : ℕ) → at xs q ≡ true → at bs q ≡ true) → trues bs ≤ trues xs → (q : ℕ) → at bs q ≡ true → at xs q ≡ true
trues_all [] [] e h l q k = k
trues_all [] (b ∷ bs) e h l q k = absurd (omega arith)
trues_all (a ∷ xs) [] e h l q k = absurd (omega arith)
trues_all (true ∷ xs) (b ∷ bs) e h l zero k = refl
trues_all (false ∷ xs) (true ∷ bs) e h l zero k = let r = trues_fewer xs bs (omega arith) (λ q. h (suc q)) in absurd (omega arith)
trues_all (false ∷ xs) (false ∷ bs) e h l zero k = k
trues_all (true ∷ xs) (true ∷ bs) e h l (suc q) k = trues_all xs bs (omega arith) (λ q. h (suc q)) (omega arith) q k
trues_all (true ∷ xs) (false ∷ bs) e h l (suc q) k = let r : false ≡ true = h 0 refl in absurd (cc)
trues_all (false ∷ xs) (true ∷ bs) e h l (suc q) k = trues_all xs bs (omega arith) (λ q. h (suc q)) (omega arith) q k
trues_all (false ∷ xs) (false ∷ bs) e h l (suc q) k = trues_all xs bs (omega arith) (λ q. h (suc q)) l q k
