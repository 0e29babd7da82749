-- Options and classes that others replace.
use Rattle.std.proofs.Common.{◌≡◌, ℕ, zero, suc, ◌+◌, ◌<◌, ◌≤◌, Bool, true, false, ◌&&◌, ◌||◌, ◌⊎◌, List, [], ◌∷◌, length, map, take, refl, sym, ◌∙◌, ap, arith, inl, inr, Vec}
use Rattle.std.specs.Prelude.{pos, ◌≤ℤ◌, slice_index_or}
use Rattle.std.specs.List.{All, list_any}
use Rattle.std.specs.declared.alloc.Global.{Global}
use Rattle.std.proofs.lemmas.Bool.{cases_eq}
use Rattle.std.proofs.lemmas.List.Folds.{Any-from_list_any, list_all_more}
use Rattle.std.proofs.lemmas.List.Elements.{All-same, All-map, All-from_get_or}
use Rattle.game_form.specs.declared.actions.Step.{Step}
use Rattle.game_form.specs.Game.{GameData, ClassData, IsRow, IsClass, class_at, no_class}
use Rattle.game_form.specs.Vector.{number, size_of}
use Rattle.counter_vec.proofs.Along.{number_here, number_there}
use Rattle.game_core.specs.Plan.{AreActions, each_planned, each_class}

-- the numbers of a row are 1 or 2
pub row_numbers : (n low : ℕ) (row : List Step) → IsRow n low row → All (λ s. (pos 1 ≤ℤ s.number) × (s.number ≤ℤ pos 2)) row
row_numbers n low [] h k d lt = absurd (omega arith)
row_numbers n low (s ∷ row) h zero d lt = (h.2, h.3)
row_numbers n low (s ∷ row) h (suc k) d lt = row_numbers n (suc s.to) row h.4 k d (omega arith)

-- a row is at most another one where each of its steps is
pub number_all : (a b : List Step) → All (λ s. size_of s.number ≤ number b s.to) a → (p : ℕ) → number a p ≤ number b p
number_all [] b h p = omega arith
number_all (s ∷ a) b h p = go (cases_eq p s.to) (h zero s (omega arith)) (number_all a b (λ k d lt. h (suc k) d (omega arith)) p)
  where
    go : (p ≡ s.to) ⊎ (p ≡ s.to → ⊥) → size_of s.number ≤ number b s.to → number a p ≤ number b p → number (s ∷ a) p ≤ number b p
    go (inl e) here rest = rw (e, number_here s a) here
    go (inr ne) here rest = rw (number_there s a p ne) rest

-- a list that passes a test has a member that does
pub any_gives : (test : ℕ → Bool) (result : Bool) (xs : List ℕ) → ((k d : ℕ) → k < length xs → test (slice_index_or xs k d) ≡ true → result ≡ true) → list_any test xs ≡ true → result ≡ true
any_gives test result xs each h = let a = Any-from_list_any test xs h in each a.0 a.1 a.2 (ap test a.3 ∙ a.4)

any_map : (test : ℕ → Bool) (options : List (ℕ × ℕ)) → list_any test (map (λ o. o.0) options) ≡ list_any (λ o. test o.0) options
any_map test [] = refl
any_map test (o ∷ options) = ap (λ b. test o.0 || b) (any_map test options)

pub class_actions : (g : GameData) (class : ClassData) (xs : List ℕ) → IsClass g class → xs ≡ map (λ o. o.0) class.options → AreActions (length g.actions) xs
class_actions g class xs known is =
    All-same (λ a. a < length g.actions) xs (map (λ o. o.0) class.options) is
    (All-map (λ a. a < length g.actions) (λ (o : ℕ × ℕ). o.0) class.options (All-from_get_or (λ (o : ℕ × ℕ). o.0 < length g.actions) class.options (0, 0) known.action))

-- one more class, with the options that stand for all of it
module _ (g : GameData) (test : ℕ → Bool) (needed : List (Vec ℕ Global)) (class : ClassData) (all options : List ℕ) (i : ℕ) (lt : i < length g.classes)
    (is : class ≡ class_at g i) (whole : all ≡ map (λ o. o.0) class.options) (least : list_any test options ≡ list_any test all)
    (same : each_planned test needed ≡ each_class test (take i g.classes)) where
  here : list_any test options ≡ list_any (λ o. test o.0) (class_at g i).options
  here = least ∙ ap (list_any test) whole ∙ any_map test class.options ∙ ap (λ (c : ClassData). list_any (λ o. test o.0) c.options) is

  more : (each_planned test needed && list_any test options) ≡ each_class test (take (i + 1) g.classes)
  more = ap (λ b. b && list_any test options) same ∙ ap (λ b. each_class test (take i g.classes) && b) here
      ∙ sym (list_all_more (λ (c : ClassData). list_any (λ o. test o.0) c.options) g.classes i no_class lt)

  pub class_placed : (new : List (Vec ℕ Global)) → each_planned test new ≡ (each_planned test needed && list_any test options) → each_planned test new ≡ each_class test (take (i + 1) g.classes)
  class_placed new made = made ∙ more

  pub class_needless : (each_planned test needed ≡ true → list_any test options ≡ true) → each_planned test needed ≡ each_class test (take (i + 1) g.classes)
  class_needless gives = absorbed (each_planned test needed) (list_any test options) gives ∙ more
    where
      absorbed : (a b : Bool) → (a ≡ true → b ≡ true) → a ≡ (a && b)
      absorbed true b h = sym (h refl)
      absorbed false b h = refl
