-- The box has each vector of its lanes and numbers.
use Rattle.std.proofs.Common.{◌≡◌, ◌≢◌, ℕ, zero, suc, ◌+◌, ◌<◌, ◌≤◌, ◌⊎◌, inl, inr, List, [], ◌∷◌, ◌++◌, map, length, refl, ap, subst, arith}
use Rattle.std.specs.Prelude.{ℤ, pos, negsuc, ◌≤ℤ◌}
use Rattle.std.specs.List.{range_with_len}
use Rattle.std.proofs.lemmas.Int.{ints}
use Rattle.std.proofs.lemmas.Bool.{cases_eq}
use Rattle.game_form.specs.Vector.{lane}
use Rattle.game_core.specs.Front.{numbers, fronted, box}

-- x is one of the list
abbrev pub IsOf : {X : Type 0} → X → List X → Type 0
IsOf x [] = ⊥
IsOf x (y ∷ ys) = (x ≡ y) ⊎ IsOf x ys

left_of : {X : Type 0} (x : X) (xs ys : List X) → IsOf x xs → IsOf x (xs ++ ys)
left_of x [] ys h = absurd h
left_of x (y ∷ xs) ys (inl e) = inl e
left_of x (y ∷ xs) ys (inr h) = inr (left_of x xs ys h)

right_of : {X : Type 0} (x : X) (xs ys : List X) → IsOf x ys → IsOf x (xs ++ ys)
right_of x [] ys h = h
right_of x (y ∷ xs) ys h = inr (right_of x xs ys h)

image_of : {X Y : Type 0} (f : X → Y) (x : X) (xs : List X) → IsOf x xs → IsOf (f x) (map f xs)
image_of f x [] h = absurd h
image_of f x (y ∷ xs) (inl e) = inl (ap f e)
image_of f x (y ∷ xs) (inr h) = inr (image_of f x xs h)

fronted_of : (x : ℤ) (xs : List ℤ) (v : List ℤ) (vs : List (List ℤ)) → IsOf x xs → IsOf v vs → IsOf (x ∷ v) (fronted xs vs)
unfolding fronted
fronted_of x [] v vs h k = absurd h
fronted_of x (y ∷ xs) v vs (inl e) k =
    left_of (x ∷ v) (map (λ w. y ∷ w) vs) (fronted xs vs)
    (let P : ℤ → Type 0 = λ z. IsOf (x ∷ v) (map (λ w. z ∷ w) vs) in subst P e (image_of (λ w. x ∷ w) v vs k))
fronted_of x (y ∷ xs) v vs (inr h) k = right_of (x ∷ v) (map (λ w. y ∷ w) vs) (fronted xs vs) (fronted_of x xs v vs h k)

in_range : (n a m : ℕ) → a ≤ m → m < a + n → IsOf m (range_with_len a n)
in_range zero a m h k = absurd (omega arith)
in_range (suc n) a m h k = go (cases_eq m a) (λ lt. in_range n (a + 1) m lt (omega arith))
  where
    go : (m ≡ a) ⊎ (m ≢ a) → (a + 1 ≤ m → IsOf m (range_with_len (a + 1) n)) → IsOf m (range_with_len a (suc n))
    go (inl e) rest = inl e
    go (inr ne) rest = inr (rest (omega arith))

in_numbers : (k : ℕ) (x : ℤ) → negsuc 0 ≤ℤ x → x ≤ℤ pos k → IsOf x (numbers k)
in_numbers k (pos n) low high = inr (image_of pos n (range_with_len 0 (k + 1)) (in_range (k + 1) 0 n (omega arith) (grind (arith, ints))))
in_numbers k (negsuc zero) low high = inl refl
in_numbers k (negsuc (suc n)) low high = absurd (grind (arith, ints))

pub in_box : (k : ℕ) (v : List ℤ) → ((p : ℕ) → p < length v → negsuc 0 ≤ℤ lane v p) → ((p : ℕ) → p < length v → lane v p ≤ℤ pos k) → IsOf v (box k (length v))
unfolding box
in_box k [] low high = inl refl
in_box k (x ∷ v) low high =
    fronted_of x (numbers k) v (box k (length v)) (in_numbers k x (low zero (omega arith)) (high zero (omega arith)))
    (in_box k v (λ p lt. low (suc p) (omega arith)) (λ p lt. high (suc p) (omega arith)))
