-- Answers by classes and options are answers by single valuations.
use Rattle.std.proofs.Common.{◌≡◌, ℕ, zero, suc, ◌<◌, ◌^◌, Bool, true, false, ◌&&◌, List, [], ◌∷◌, length, refl, sym, ap, ◌∙◌, subst, arith}
use Rattle.std.specs.Prelude.{ℤ, ◌≤ℤ◌, int_le, slice_index_or}
use Rattle.std.specs.List.{list_all}
use Rattle.std.proofs.lemmas.Bool.{and_parts}
use Rattle.std.proofs.lemmas.Int.{ints}
use Rattle.std.proofs.lemmas.List.{get_or_default}
use Rattle.std.proofs.lemmas.List.Folds.{Any-from_list_any, list_any_at}
use Rattle.word_core.specs.declared.names.Kind.{Kind}
use Rattle.word_core.specs.declared.names.Kind.TheVariants.{First, Second}
use Rattle.word_core.proofs.TreeLabels.{label_of-all}
use Rattle.game_form.specs.Game.{GameData, IsGame, class_at, class_of, option_at, no_class, action_of, own_width, other_width, of_first, of_second}
use Rattle.game_form.specs.Vector.{AtOrBelow, lane, successor}
use Rattle.game_form.specs.Predecessor.{Covered, Works, HasAnswers, HasChoice, by_kind, InPredecessor}
use Rattle.game_form.specs.Letters.{letters_of, HasLetters}
use Rattle.game_form.specs.Covering.{covering_of, CoversLetters}
use Rattle.antichain_list.specs.Antichain.{covered}
use Rattle.counter_vec.specs.Counters.{at_or_below}
use Rattle.cpre_step.specs.Refinement.{action_works, some_works, all_work, answers_by, answers, AreLeft}
use Rattle.cpre_step.specs.Outcome.{Refines}
use Rattle.cpre_step.specs.Valuations.{AreMaximal, RefinesByValuations}
use Rattle.cpre_step.specs.declared.refines.Refined.{Refined}
use Rattle.cpre_step.specs.declared.refines.Refined.TheVariants.{Kept, Shrunk}

number_below : (x y : ℤ) → int_le x y ≡ true → x ≤ℤ y
number_below x y h = grind (arith, ints)

number_test : (x y : ℤ) → x ≤ℤ y → int_le x y ≡ true
number_test x y h = grind (arith, ints)

-- the test on vectors is their order lane by lane
lanes_below : (u v : List ℤ) → at_or_below u v ≡ true → AtOrBelow u v
lanes_below [] [] h = record { same_length = refl; below = λ p lt. absurd (omega arith) }
lanes_below [] (y ∷ v) h = absurd (cc)
lanes_below (x ∷ u) [] h = absurd (cc)
lanes_below (x ∷ u) (y ∷ v) h =
    let parts = and_parts (int_le x y) (at_or_below u v) h in
    let rest : AtOrBelow u v = lanes_below u v parts.1 in
    record { same_length = ap suc rest.same_length; below = at rest (number_below x y parts.0) }
  where
    at : AtOrBelow u v → x ≤ℤ y → (p : ℕ) → p < length (x ∷ u) → lane (x ∷ u) p ≤ℤ lane (y ∷ v) p
    at rest first zero lt = first
    at rest first (suc p) lt = rest.below p (omega arith)

tested_below : (u v : List ℤ) → AtOrBelow u v → at_or_below u v ≡ true
tested_below [] [] h = refl
tested_below [] (y ∷ v) h = (let e : length {A = ℤ} [] ≡ length (y ∷ v) = h.same_length in absurd (omega arith))
tested_below (x ∷ u) [] h = (let e : length (x ∷ u) ≡ length {A = ℤ} [] = h.same_length in absurd (omega arith))
tested_below (x ∷ u) (y ∷ v) h =
    let e : length (x ∷ u) ≡ length (y ∷ v) = h.same_length in
    let rest : at_or_below u v ≡ true = tested_below u v (record { same_length = omega arith; below = λ p lt. h.below (suc p) (omega arith) }) in
    ap (λ b. b && at_or_below u v) (number_test x y (h.below zero (omega arith))) ∙ rest

is_covered : (list : List (List ℤ)) (u : List ℤ) → covered at_or_below u list ≡ true → Covered list u
is_covered list u h =
    let r = Any-from_list_any (λ e. at_or_below u e) list h in
    let below : at_or_below u (slice_index_or list r.0 []) ≡ true = ap (at_or_below u) (get_or_default list r.0 [] r.1 r.2 ∙ r.3) ∙ r.4 in
    (r.0, r.2, lanes_below u (slice_index_or list r.0 []) below)

test_covered : (list : List (List ℤ)) (u : List ℤ) → Covered list u → covered at_or_below u list ≡ true
test_covered list u c = list_any_at (λ e. at_or_below u e) list c.0 [] c.1 (tested_below u (slice_index_or list c.0 []) c.2)

each_of : {X : Type 0} (p : X → Bool) (xs : List X) (d : X) → list_all p xs ≡ true → (i : ℕ) → i < length xs → p (slice_index_or xs i d) ≡ true
each_of p [] d h i lt = absurd (omega arith)
each_of p (x ∷ xs) d h zero lt = (and_parts (p x) (list_all p xs) h).0
each_of p (x ∷ xs) d h (suc i) lt = each_of p xs d (and_parts (p x) (list_all p xs) h).1 i (omega arith)

all_of_each : {X : Type 0} (p : X → Bool) (xs : List X) (d : X) → ((i : ℕ) → i < length xs → p (slice_index_or xs i d) ≡ true) → list_all p xs ≡ true
all_of_each p [] d h = refl
all_of_each p (x ∷ xs) d h = ap (λ b. b && list_all p xs) (h zero (omega arith)) ∙ all_of_each p xs d (λ i lt. h (suc i) (omega arith))

module _ (g : GameData) (known : IsGame g) (list : List (List ℤ)) (f : List ℤ) where
  class_within : (first : ℕ) → class_of g first < length g.classes
  class_within first = label_of-all (λ l. l < length g.classes) g.firsts known.firsts.tree known.firsts.labels first

  letter_works : (own other a : ℕ) → a ≡ action_of g own other → action_works g list f a ≡ true → Works g list f own other
  letter_works own other a e h = is_covered list (successor g (action_of g own other) f) (subst (λ n. action_works g list f n ≡ true) e h)

  action_tested : (own other a : ℕ) → a ≡ action_of g own other → Works g list f own other → action_works g list f a ≡ true
  action_tested own other a e w = subst (λ n. action_works g list f n ≡ true) (sym e) (test_covered list (successor g (action_of g own other) f) w)

  -- kind Second: some option of each class works exactly where each valuation of the other has an answer
  has_answers : g.kind ≡ Second → letters_of Second g → answers_by Second g list f ≡ true → HasAnswers g list f
  has_answers kind letters answered other in_other =
      let place : ℕ = class_of g other in
      let within : place < length g.classes = class_within other in
      let options : List (ℕ × ℕ) = (class_at g place).options in
      let r = Any-from_list_any (λ o. action_works g list f o.0) options (each_of (λ c. some_works g list f c) g.classes no_class answered place within) in
      let own : ℕ = (option_at (class_at g place) r.0).1 in
      let in_own : own < 2 ^ own_width g = subst (λ k. own < 2 ^ of_second k (own_width g) (other_width g)) kind ((known.classes place within).reply r.0 r.2) in
      let works : action_works g list f (option_at (class_at g place) r.0).0 ≡ true = ap (λ (o : ℕ × ℕ). action_works g list f o.0) (get_or_default options r.0 (0, 0) r.1 r.2 ∙ r.3) ∙ r.4 in
      (own, in_own, letter_works own other (option_at (class_at g place) r.0).0 (letters other r.0 in_other r.2) works)

  each_answered : g.kind ≡ Second → covering_of Second g → HasAnswers g list f → answers_by Second g list f ≡ true
  each_answered kind covering has = all_of_each (λ c. some_works g list f c) g.classes no_class class_works
    where
      class_works : (place : ℕ) → place < length g.classes → some_works g list f (class_at g place) ≡ true
      class_works place lt =
          let other : ℕ = (class_at g place).least in
          let in_other : other < 2 ^ other_width g = subst (λ k. other < 2 ^ of_first k (own_width g) (other_width g)) kind (known.classes place lt).least in
          let w = has other in_other in
          let r = covering place w.0 lt w.1 in
          list_any_at (λ o. action_works g list f o.0) (class_at g place).options r.0 (0, 0) r.1
          (action_tested w.0 other (option_at (class_at g place) r.0).0 r.2 w.2)

  -- kind First: all options of some class work exactly where some own valuation works at each valuation of the other
  has_choice : g.kind ≡ First → letters_of First g → answers_by First g list f ≡ true → HasChoice g list f
  has_choice kind letters answered =
      let r = Any-from_list_any (λ c. all_work g list f c) g.classes answered in
      let place : ℕ = r.0 in
      let own : ℕ = (class_at g place).least in
      let in_own : own < 2 ^ own_width g = subst (λ k. own < 2 ^ of_first k (own_width g) (other_width g)) kind (known.classes place r.2).least in
      let all : all_work g list f (class_at g place) ≡ true = ap (all_work g list f) (get_or_default g.classes place no_class r.1 r.2 ∙ r.3) ∙ r.4 in (
        own,
        in_own,
        λ other in_other. (
            let o = letters place other r.2 in_other in
            letter_works own other (option_at (class_at g place) o.0).0 o.2 (each_of (λ p. action_works g list f p.0) (class_at g place).options (0, 0) all o.0 o.1)),
      )

  choice_answered : g.kind ≡ First → covering_of First g → HasChoice g list f → answers_by First g list f ≡ true
  choice_answered kind covering has =
      list_any_at (λ c. all_work g list f c) g.classes (class_of g has.0) no_class (class_within has.0)
      (all_of_each (λ o. action_works g list f o.0) (class_at g (class_of g has.0)).options (0, 0) option_works)
    where
      option_works : (i : ℕ) → i < length (class_at g (class_of g has.0)).options → action_works g list f (option_at (class_at g (class_of g has.0)) i).0 ≡ true
      option_works i lt =
          let other : ℕ = (option_at (class_at g (class_of g has.0)) i).1 in
          let in_other : other < 2 ^ other_width g = subst (λ k. other < 2 ^ of_second k (own_width g) (other_width g)) kind ((known.classes (class_of g has.0) (class_within has.0)).reply i lt) in
          action_tested has.0 other (option_at (class_at g (class_of g has.0)) i).0 (covering has.0 i has.1 lt) (has.2 other in_other)

  valuations_by : (kind : Kind) → g.kind ≡ kind → letters_of kind g → answers_by kind g list f ≡ true → by_kind kind (HasChoice g list f) (HasAnswers g list f)
  valuations_by First kind letters answered = has_choice kind letters answered
  valuations_by Second kind letters answered = has_answers kind letters answered

  answered_by : (kind : Kind) → g.kind ≡ kind → covering_of kind g → by_kind kind (HasChoice g list f) (HasAnswers g list f) → answers_by kind g list f ≡ true
  answered_by First kind covering has = choice_answered kind covering has
  answered_by Second kind covering has = each_answered kind covering has

  pub in_predecessor : HasLetters g → answers g list f ≡ true → InPredecessor g list f
  in_predecessor letters answered = valuations_by g.kind refl letters answered

  pub answered : CoversLetters g → InPredecessor g list f → answers g list f ≡ true
  answered covering has = answered_by g.kind refl covering has

-- what is left below f
left_maximal : (g : GameData) → IsGame g → HasLetters g → CoversLetters g → (list : List (List ℤ)) (f : List ℤ) (left : List (List ℤ)) → AreLeft g list f left → AreMaximal g list f left
left_maximal g known letters covering list f left h = record {
  vectors = h.vectors;
  antichain = h.antichain;
  covers = λ u is. (
    (λ c. (
        let both = and_parts (at_or_below u f) (answers g list u) (sym (h.covers u is) ∙ test_covered left u c) in
        (lanes_below u f both.0, in_predecessor g known list u letters both.1))),
    (λ c. is_covered left u (h.covers u is ∙ ap (λ b. b && answers g list u) (tested_below u f c.0) ∙ answered g known list u covering c.1)),
  );
}

pub refines_by_valuations : (g : GameData) → IsGame g → HasLetters g → CoversLetters g → (list : List (List ℤ)) (f : List ℤ) (r : Refined) → Refines g list f r → RefinesByValuations g list f r
refines_by_valuations g known letters covering list f Kept h = in_predecessor g known list f letters h
refines_by_valuations g known letters covering list f (Shrunk left) h = (
  (λ in_it. (let e : answers g list f ≡ true = answered g known list f covering in_it in let n : answers g list f ≡ false = h.0 in absurd (cc))),
  left_maximal g known letters covering list f left.items h.1,
)
