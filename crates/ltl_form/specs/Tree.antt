-- Formulas in normal form as trees. Their constants are folded from the inside outwards.
use Rattle.std.specs.Prelude.{ℕ, Bool, true, false, ◌&&◌, nat_lt, List, fold, if◌then◌else◌}
use Rattle.ltl_form.specs.declared.formulas.Ltl.{Ltl, fold-Ltl}
use Rattle.ltl_form.specs.declared.formulas.Ltl.TheOpen.{Ltl-F}

pub data Tree : Type 0 where
  truth : Tree
  falsity : Tree
  literal : ℕ → Bool → Tree
  conjoined : Tree → Tree → Tree
  disjoined : Tree → Tree → Tree
  following : Tree → Tree
  until : Tree → Tree → Tree
  release : Tree → Tree → Tree
  deriving Discrete as Tree-discrete

abbrev pub is_truth : Tree → Bool
is_truth truth = true
is_truth _ = false

abbrev pub is_falsity : Tree → Bool
is_falsity falsity = true
is_falsity _ = false

-- true and f = f, f and true = f, false and f = false, f and false = false
abbrev pub conjunction : Tree → Tree → Tree
conjunction f g =
    if is_truth f then g else (if is_truth g then f else (if is_falsity f then f else (if is_falsity g then g else conjoined f g)))

-- true or f = true, f or true = true, false or f = f, f or false = f
abbrev pub disjunction : Tree → Tree → Tree
disjunction f g =
    if is_truth f then f else (if is_truth g then g else (if is_falsity f then g else (if is_falsity g then f else disjoined f g)))

-- X true = true, X false = false
abbrev pub next_of : Tree → Tree
next_of f = if is_truth f then f else (if is_falsity f then f else following f)

-- f U true = true, f U false = false, false U f = f
abbrev pub until_of : Tree → Tree → Tree
until_of f g = if is_truth g then g else (if is_falsity g then g else (if is_falsity f then g else until f g))

-- f R true = true, f R false = false, true R f = f
abbrev pub release_of : Tree → Tree → Tree
release_of f g = if is_truth g then g else (if is_falsity g then g else (if is_truth f then g else release f g))

-- the positive and the negative form of a formula
pub record Sides : Type 0 where
  pub positive : Tree
  pub negative : Tree

abbrev pub true_sides : Sides
true_sides = record { positive = truth; negative = falsity }

abbrev pub false_sides : Sides
false_sides = record { positive = falsity; negative = truth }

abbrev pub signal_sides : ℕ → Sides
signal_sides x = record { positive = literal x true; negative = literal x false }

abbrev pub not_sides : Sides → Sides
not_sides f = record { positive = f.negative; negative = f.positive }

abbrev pub and_sides : Sides → Sides → Sides
and_sides f g = record { positive = conjunction f.positive g.positive; negative = disjunction f.negative g.negative }

abbrev pub or_sides : Sides → Sides → Sides
or_sides f g = record { positive = disjunction f.positive g.positive; negative = conjunction f.negative g.negative }

abbrev pub equiv_sides : Sides → Sides → Sides
equiv_sides f g = record {
  positive = disjunction (conjunction f.positive g.positive) (conjunction f.negative g.negative);
  negative = disjunction (conjunction f.positive g.negative) (conjunction f.negative g.positive);
}

abbrev pub next_sides : Sides → Sides
next_sides f = record { positive = next_of f.positive; negative = next_of f.negative }

abbrev pub until_sides : Sides → Sides → Sides
until_sides f g = record { positive = until_of f.positive g.positive; negative = release_of f.negative g.negative }

abbrev pub release_sides : Sides → Sides → Sides
release_sides f g = record { positive = release_of f.positive g.positive; negative = until_of f.negative g.negative }

-- operands are grouped to the left
abbrev pub all_sides : List Sides → Sides
all_sides fs = fold and_sides true_sides fs

abbrev pub any_sides : List Sides → Sides
any_sides fs = fold or_sides false_sides fs

-- one level, with both forms of the formulas inside it
abbrev pub sides_step : Ltl-F Sides → Sides
sides_step Ltl-F.True = true_sides
sides_step Ltl-F.False = false_sides
sides_step (Ltl-F.Signal x) = signal_sides x
sides_step (Ltl-F.Not f) = not_sides f
sides_step (Ltl-F.All fs) = all_sides fs
sides_step (Ltl-F.Any fs) = any_sides fs
sides_step (Ltl-F.Implies f g) = or_sides (not_sides f) g
sides_step (Ltl-F.Equiv f g) = equiv_sides f g
sides_step (Ltl-F.Next f) = next_sides f
sides_step (Ltl-F.Finally f) = until_sides true_sides f
sides_step (Ltl-F.Globally f) = release_sides false_sides f
sides_step (Ltl-F.Until f g) = until_sides f g
sides_step (Ltl-F.Release f g) = release_sides f g
sides_step (Ltl-F.Weak f g) = release_sides g (or_sides f g)

abbrev pub sides : Ltl → Sides
sides = fold-Ltl Sides sides_step

-- the normal form of a formula, or of its negation
abbrev pub normal_tree : Ltl → Bool → Tree
normal_tree f positive = if positive then (sides f).positive else (sides f).negative

-- each signal of a tree is below n
abbrev pub tree_below : ℕ → Tree → Bool
tree_below n truth = true
tree_below n falsity = true
tree_below n (literal x positive) = nat_lt x n
tree_below n (conjoined f g) = tree_below n f && tree_below n g
tree_below n (disjoined f g) = tree_below n f && tree_below n g
tree_below n (following f) = tree_below n f
tree_below n (until f g) = tree_below n f && tree_below n g
tree_below n (release f g) = tree_below n f && tree_below n g
