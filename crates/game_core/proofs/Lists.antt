-- Lists of vectors that a downset makes.
use Rattle.std.proofs.Common.{ℕ, take, drop, zero, suc, Bool, true, false, List, [], ◌∷◌, arith}
use Rattle.std.specs.Prelude.{not, if◌then◌else◌}
use Rattle.std.specs.List.{All, insert}
use Rattle.std.specs.Ordering.{is_lt}
use Rattle.std.proofs.lemmas.List.Elements.{All-append, All-cons, All-drop, All-filter, All-take}
use Rattle.std.specs.declared.cmp.Ordering.{Ordering}
use Rattle.antichain_list.specs.Antichain.{covered, placed, added, without_below}

tail_all : {X : Type 0} (P : X → Type 0) (x : X) (xs : List X) → All P (x ∷ xs) → All P xs
tail_all P x xs h k d lt = h (suc k) d (omega arith)

pub all_if : {X : Type 0} (P : List X → Type 0) (b : Bool) (xs ys : List X) → P xs → P ys → P (if b then xs else ys)
all_if P true xs ys a b = a
all_if P false xs ys a b = b

all_placed : {X : Type 0} (P : X → Type 0) (order : X → X → Ordering) (v : X) (xs : List X) → P v → All P xs → All P (placed order v xs)
all_placed P order v [] p h = All-cons P v [] p h
all_placed P order v (x ∷ xs) p h =
    all_if (All P) (is_lt (order v x)) (v ∷ x ∷ xs) (x ∷ placed order v xs) (All-cons P v (x ∷ xs) p h)
    (All-cons P x (placed order v xs) (h zero x (omega arith)) (all_placed P order v xs p (tail_all P x xs h)))

pub all_added : {X : Type 0} (P : X → Type 0) (below : X → X → Bool) (order : X → X → Ordering) (v : X) (xs : List X) → P v → All P xs → All P (added below order v xs)
all_added P below order v xs p h =
    all_if (All P) (covered below v xs) xs (placed order v (without_below below v xs)) h
    (all_placed P order v (without_below below v xs) p (All-filter (λ e. not (below e v)) P xs h))

pub all_inserted : {X : Type 0} (P : X → Type 0) (i : ℕ) (xs : List X) (x : X) → All P xs → P x → All P (insert xs i x)
all_inserted P i xs x h p = All-append P (take i xs) (x ∷ drop i xs) (All-take P i xs h) (All-cons P x (drop i xs) p (All-drop P i xs h))
