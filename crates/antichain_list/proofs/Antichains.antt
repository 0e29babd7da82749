-- The list stays an ascending antichain.
use Rattle.std.proofs.Common.{◌≡◌, ℕ, zero, suc, Bool, true, false, not, List, [], ◌∷◌, cond, ◌||◌, refl, sym, ◌∙◌, ap}
use Rattle.std.specs.List.{filter, remove}
use Rattle.std.specs.Ordering.{is_lt, ordering_reverse}
use Rattle.std.specs.declared.cmp.Ordering.{Ordering}
use Rattle.std.specs.declared.cmp.Ordering.TheVariants.{Less, Equal, Greater}
use Rattle.std.specs.Cmp.{IsTotalOrder}
use Rattle.antichain_list.specs.Antichain.{IsEntryOrder, IsBefore, IsFirst, IsAntichain, covered, without_below, placed}

pub IsFirst-remove : {E : Type 0} (below : E → E → Bool) (order : E → E → Ordering) (x : E) (xs : List E) (i : ℕ)
    → IsFirst below order x xs → IsFirst below order x (remove xs i)
IsFirst-remove below order x [] zero h = tt
IsFirst-remove below order x [] (suc i) h = tt
IsFirst-remove below order x (y ∷ ys) zero h = h.1
IsFirst-remove below order x (y ∷ ys) (suc i) h = (h.0, IsFirst-remove below order x ys i h.1)

pub IsAntichain-remove : {E : Type 0} (below : E → E → Bool) (order : E → E → Ordering) (xs : List E) (i : ℕ)
    → IsAntichain below order xs → IsAntichain below order (remove xs i)
IsAntichain-remove below order [] zero h = tt
IsAntichain-remove below order [] (suc i) h = tt
IsAntichain-remove below order (y ∷ ys) zero h = h.1
IsAntichain-remove below order (y ∷ ys) (suc i) h = (IsFirst-remove below order y ys i h.0, IsAntichain-remove below order ys i h.1)

pub IsFirst-filter : {E : Type 0} (below : E → E → Bool) (order : E → E → Ordering) (keep : E → Bool) (x : E) (xs : List E)
    → IsFirst below order x xs → IsFirst below order x (filter keep xs)
IsFirst-filter below order keep x [] h = tt
IsFirst-filter below order keep x (y ∷ ys) h =
    let rest = IsFirst-filter below order keep x ys h.1 in
    elim (keep y) as (λ b. IsFirst below order x (cond b (y ∷ filter keep ys) (filter keep ys))) [ true ↦ (h.0, rest) | false ↦ rest ]

pub IsAntichain-filter : {E : Type 0} (below : E → E → Bool) (order : E → E → Ordering) (keep : E → Bool) (xs : List E)
    → IsAntichain below order xs → IsAntichain below order (filter keep xs)
IsAntichain-filter below order keep [] h = tt
IsAntichain-filter below order keep (y ∷ ys) h =
    let rest = IsAntichain-filter below order keep ys h.1 in
    elim (keep y) as (λ b. IsAntichain below order (cond b (y ∷ filter keep ys) (filter keep ys)))
    [ true ↦ (IsFirst-filter below order keep y ys h.0, rest) | false ↦ rest ]

no_first : (a b : Bool) → (a || b) ≡ false → a ≡ false
no_first true b h = h
no_first false b h = refl

no_second : (a b : Bool) → (a || b) ≡ false → b ≡ false
no_second true b h = cc
no_second false b h = h

-- v is comparable with no entry
abbrev pub IsFree : {E : Type 0} → (E → E → Bool) → E → List E → Type 0
IsFree below v [] = Unit {0}
IsFree below v (x ∷ xs) = (below v x ≡ false) × (below x v ≡ false) × IsFree below v xs

pub IsFree-without_below : {E : Type 0} (below : E → E → Bool) (v : E) (xs : List E)
    → covered below v xs ≡ false → IsFree below v (without_below below v xs)
IsFree-without_below below v [] h = tt
IsFree-without_below below v (x ∷ xs) h =
    let nb : below v x ≡ false = no_first (below v x) _ h in
    let rest = IsFree-without_below below v xs (no_second (below v x) _ h) in
    go (below x v) nb refl rest
  where
    go : (b : Bool) → below v x ≡ false → below x v ≡ b → IsFree below v (without_below below v xs)
        → IsFree below v (cond (not b) (x ∷ without_below below v xs) (without_below below v xs))
    go true nb e rest = rest
    go false nb e rest = (nb, e, rest)

pub IsFirst-placed : {E : Type 0} (below : E → E → Bool) (order : E → E → Ordering) (x v : E) (xs : List E)
    → IsBefore below order x v → IsFirst below order x xs → IsFirst below order x (placed order v xs)
IsFirst-placed below order x v [] b h = (b, tt)
IsFirst-placed below order x v (y ∷ ys) b h =
    let rest = IsFirst-placed below order x v ys b h.1 in
    elim (is_lt (order v y)) as (λ t. IsFirst below order x (cond t (v ∷ y ∷ ys) (y ∷ placed order v ys)))
    [ true ↦ (b, h) | false ↦ (h.0, rest) ]

-- v comes before what comes after an entry that v comes before
pub IsFirst-before : {E : Type 0} (below : E → E → Bool) (order : E → E → Ordering) → IsTotalOrder order → (v x : E) (xs : List E)
    → order v x ≡ Less → IsFree below v xs → IsFirst below order x xs → IsFirst below order v xs
IsFirst-before below order t v x [] lt free h = tt
IsFirst-before below order t v x (y ∷ ys) lt free h = (
  record { ascends = t.trans v x y lt h.0.ascends; not_below = free.0; not_above = free.1 },
  IsFirst-before below order t v x ys lt free.2 h.1,
)

pub before_from_not_less : {E : Type 0} (below : E → E → Bool) (order : E → E → Ordering) → IsEntryOrder below order → (v x : E)
    → is_lt (order v x) ≡ false → below v x ≡ false → below x v ≡ false → IsBefore below order x v
before_from_not_less below order laws v x not_lt nb na = go (order v x) refl
  where
    go : (o : Ordering) → order v x ≡ o → IsBefore below order x v
    go Less e = cc (ap is_lt e)
    go Equal e =
        let same : v ≡ x = laws.agrees v x e in
        let b : below v x ≡ true = ap (below v) (sym same) ∙ laws.reflexive v in
        cc
    go Greater e = record { ascends = laws.total.antisymm x v ∙ ap ordering_reverse e; not_below = na; not_above = nb }

is_less : (o : Ordering) → is_lt o ≡ true → o ≡ Less
is_less Less h = refl
is_less Equal h = cc
is_less Greater h = cc

pub IsAntichain-placed : {E : Type 0} (below : E → E → Bool) (order : E → E → Ordering) → IsEntryOrder below order → (v : E) (xs : List E)
    → IsFree below v xs → IsAntichain below order xs → IsAntichain below order (placed order v xs)
IsAntichain-placed below order laws v [] free h = (tt, tt)
IsAntichain-placed below order laws v (x ∷ xs) free h = go (is_lt (order v x)) refl (IsAntichain-placed below order laws v xs free.2 h.1)
  where
    go : (b : Bool) → is_lt (order v x) ≡ b → IsAntichain below order (placed order v xs) → IsAntichain below order (cond b (v ∷ x ∷ xs) (x ∷ placed order v xs))
    go true e rest =
        let lt : order v x ≡ Less = is_less (order v x) e in
        ((record { ascends = lt; not_below = free.0; not_above = free.1 }, IsFirst-before below order laws.total v x xs lt free.2 h.0), h)
    go false e rest = (IsFirst-placed below order x v xs (before_from_not_less below order laws v x e free.0 free.1) h.0, rest)

pub IsAntichain-put : {E : Type 0} (below : E → E → Bool) (order : E → E → Ordering) → IsEntryOrder below order → (v : E) (xs : List E)
    → covered below v xs ≡ false → IsAntichain below order xs → IsAntichain below order (placed order v (without_below below v xs))
IsAntichain-put below order laws v xs free h =
    IsAntichain-placed below order laws v (without_below below v xs) (IsFree-without_below below v xs free)
    (IsAntichain-filter below order (λ e. not (below e v)) xs h)

-- a put that finds no room leaves the list
pub IsAntichain-tried : {E : Type 0} (below : E → E → Bool) (order : E → E → Ordering) → IsEntryOrder below order → (v : E) (xs ys : List E) (done : Bool)
    → covered below v xs ≡ false → ys ≡ cond done (placed order v (without_below below v xs)) xs → IsAntichain below order xs → IsAntichain below order ys
IsAntichain-tried below order laws v xs ys true free e h = rw e (IsAntichain-put below order laws v xs free h)
IsAntichain-tried below order laws v xs ys false free e h = rw e h
