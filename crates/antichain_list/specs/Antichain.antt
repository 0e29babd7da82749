-- Lists of incomparable entries in ascending order.
use Rattle.std.specs.Prelude.{◌≡◌, Bool, true, false, not, List, [], ◌∷◌, if◌then◌else◌}
use Rattle.std.specs.List.{list_any, filter}
use Rattle.std.specs.Ordering.{is_lt}
use Rattle.std.specs.declared.cmp.Ordering.{Ordering}
use Rattle.std.specs.declared.cmp.Ordering.TheVariants.{Less, Equal}
use Rattle.std.specs.Cmp.{IsTotalOrder}

-- `below` is a partial order, and `order` a total one that agrees with equality
pub record IsEntryOrder {E : Type 0} (below : E → E → Bool) (order : E → E → Ordering) : Type 0 where
  pub reflexive : (x : E) → below x x ≡ true
  pub antisymmetric : (x y : E) → below x y ≡ true → below y x ≡ true → x ≡ y
  pub transitive : (x y z : E) → below x y ≡ true → below y z ≡ true → below x z ≡ true
  pub total : IsTotalOrder order
  pub agrees : (x y : E) → order x y ≡ Equal → x ≡ y

-- x comes before y, and they are not comparable
pub record IsBefore {E : Type 0} (below : E → E → Bool) (order : E → E → Ordering) (x y : E) : Type 0 where
  pub ascends : order x y ≡ Less
  pub not_below : below x y ≡ false
  pub not_above : below y x ≡ false

-- x comes before each entry, and is comparable with none
abbrev pub IsFirst : {E : Type 0} → (E → E → Bool) → (E → E → Ordering) → E → List E → Type 0
IsFirst below order x [] = Unit {0}
IsFirst below order x (y ∷ ys) = IsBefore below order x y × IsFirst below order x ys

-- the list ascends, and no two of its entries are comparable
abbrev pub IsAntichain : {E : Type 0} → (E → E → Bool) → (E → E → Ordering) → List E → Type 0
IsAntichain below order [] = Unit {0}
IsAntichain below order (x ∷ xs) = IsFirst below order x xs × IsAntichain below order xs

-- some entry is at or above v
abbrev pub covered : {E : Type 0} → (E → E → Bool) → E → List E → Bool
covered below v xs = list_any (λ e. below v e) xs

-- the entries that are not at or below v
abbrev pub without_below : {E : Type 0} → (E → E → Bool) → E → List E → List E
without_below below v xs = filter (λ e. not (below e v)) xs

-- v put before the first entry that comes after it
abbrev pub placed : {E : Type 0} → (E → E → Ordering) → E → List E → List E
placed order v [] = v ∷ []
placed order v (x ∷ xs) = if is_lt (order v x) then v ∷ x ∷ xs else (x ∷ placed order v xs)

-- the list with v: it stays where v is covered, and else v takes the place of the entries below it
abbrev pub added : {E : Type 0} → (E → E → Bool) → (E → E → Ordering) → E → List E → List E
added below order v xs = if covered below v xs then xs else placed order v (without_below below v xs)
