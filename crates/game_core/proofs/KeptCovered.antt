-- What a machine keeps in the bound is answered.
use Rattle.std.proofs.Common.{◌≡◌, ℕ, zero, suc, ◌<◌, ◌^◌, Bool, true, false, cond, List, [], ◌∷◌, length, Option, Some, None, IsSome, refl, sym, ◌∙◌, ap, subst, arith}
use Rattle.std.specs.Prelude.{ℤ, pos, negsuc, ◌≤ℤ◌, slice_index_or, MatchOption}
use Rattle.std.specs.List.{All, list_all}
use Rattle.std.proofs.lemmas.List.{get_or_default}
use Rattle.std.proofs.lemmas.List.Elements.{All-from_get_or}
use Rattle.std.proofs.lemmas.List.Folds.{list_any_at}
use Rattle.std.proofs.lemmas.List.FromFn.{get_or-map-range_with_len, length-map-range_with_len}
use Rattle.counter_vec.proofs.Vectors.{arrived_low}
use Rattle.word_core.specs.declared.names.Kind.{Kind}
use Rattle.word_core.specs.declared.names.Kind.TheVariants.{First, Second}
use Rattle.word_core.specs.declared.names.Player.{Player}
use Rattle.word_core.specs.declared.machines.Line.{Line}
use Rattle.word_core.specs.Cube.{holds}
use Rattle.word_core.specs.Machine as machine
use Rattle.word_core.specs.Machine.{MachineData, IsLine, HasOneOwn, choice, lines_at, own_of, other_of}
use Rattle.word_core.specs.Play.{Move, IsPlayFrom}
use Rattle.word_core.proofs.TreeLabels.{label_of-all}
use Rattle.game_form.specs.Game.{GameData, ClassData, IsGame, lanes, action_at, class_at, class_of, option_at, no_class, action_of, own_width, other_width, of_first, of_second}
use Rattle.game_form.specs.Vector.{IsVector, arrived, bound, successor}
use Rattle.game_form.specs.Held.{IsMachineOf, KeepsFrom}
use Rattle.game_form.specs.Covering.{covering_of, CoversLetters}
use Rattle.cpre_step.specs.Refinement.{action_works, all_work, some_works, answers, answers_by}
use Rattle.game_core.specs.Solved.{CoversKept}

-- the line that decides is one of the lines
decides_at : (lines : List Line) (x : ℕ) (l : Line) → choice lines x ≡ Some l → (i : ℕ) × (i < length lines) × (slice_index_or lines i l ≡ l)
decides_at [] x l e = cc
decides_at (y ∷ lines) x l e = go (holds y.when x) e (decides_at lines x l)
  where
    go : (b : Bool) → cond b (Some y) (choice lines x) ≡ Some l → (choice lines x ≡ Some l → (i : ℕ) × (i < length lines) × (slice_index_or lines i l ≡ l))
        → (i : ℕ) × (i < length (y ∷ lines)) × (slice_index_or (y ∷ lines) i l ≡ l)
    go true h later = (zero, omega arith, cc)
    go false h later = let r = later h in (suc r.0, omega (arith, r.1), r.2)

found : (o : Option Line) → IsSome o → (l : Line) × (o ≡ Some l)
found None h = cc
found (Some l) h = (l, refl)

all_from : {X : Type 0} (p : X → Bool) (xs : List X) → All (λ x. p x ≡ true) xs → list_all p xs ≡ true
all_from p [] h = refl
all_from p (x ∷ xs) h = rw (h zero x (omega arith), all_from p xs (λ k d lt. h (suc k) d (omega arith))) refl

positive : (n : ℕ) → 0 < 2 ^ n
positive zero = omega arith
positive (suc n) = let h = positive n in omega arith

same_own : (lines : List Line) (i : ℕ) (l d : Line) → i < length lines → slice_index_or lines i d ≡ d → (slice_index_or lines i l).own ≡ d.own
same_own lines i l d lt e = ap (λ (n : Line). n.own) (get_or_default lines i l d lt ∙ e)

own_same : (p q : Player) (a b c d : ℕ) → p ≡ q → a ≡ b → c ≡ d → machine.own_width p a c ≡ machine.own_width q b d
own_same p q a b c d e f h = cc

other_same : (p q : Player) (a b c d : ℕ) → p ≡ q → a ≡ b → c ≡ d → machine.other_width p a c ≡ machine.other_width q b d
other_same p q a b c d e f h = cc

module _ (g : GameData) (known : IsGame g) (vs : List (List ℤ)) (covers : CoversKept g vs) (m : MachineData) (fits : IsMachineOf g m) (s : ℕ) (in_s : s < length m.states)
    (u : List ℤ) (keeps : KeepsFrom g m s u) where
  owns : own_of m ≡ own_width g
  owns = own_same m.player g.player m.inputs g.inputs m.outputs g.outputs fits.player fits.inputs fits.outputs

  others : other_of m ≡ other_width g
  others = other_same m.player g.player m.inputs g.inputs m.outputs g.outputs fits.player fits.inputs fits.outputs

  decided : (other : ℕ) → other < 2 ^ other_width g → (l : Line) × (choice (lines_at m s) other ≡ Some l)
  decided other lt = found (choice (lines_at m s) other) (fits.machine.decided s [] in_s other (subst (λ w. other < 2 ^ w) (sym others) lt))

  line : (other : ℕ) (l : Line) → choice (lines_at m s) other ≡ Some l → IsLine (own_of m) (other_of m) (length m.states) l
  line other l e =
      let r = decides_at (lines_at m s) other l e in
      subst (IsLine (own_of m) (other_of m) (length m.states)) r.2 (fits.machine.ranged s [] in_s r.0 l r.1)

  keeps_next : (other : ℕ) (l : Line) → other < 2 ^ other_width g → choice (lines_at m s) other ≡ Some l → KeepsFrom g m l.next (successor g (action_of g l.own other) u)
  keeps_next other l lt e moves play =
      let move : Move = record { own = l.own; other = other } in
      keeps (move ∷ moves) (
        subst (λ w. other < 2 ^ w) (sym others) lt,
        subst (λ o. MatchOption o ⊥ (λ n. (l.own ≡ n.own) × IsPlayFrom m n.next moves)) (sym e) (refl, play),
      )

  next_vector : (other : ℕ) (l : Line) → other < 2 ^ other_width g → choice (lines_at m s) other ≡ Some l → IsVector g (successor g (action_of g l.own other) u)
  next_vector other l lt e =
      let f : ℕ → ℤ = arrived (bound g) (action_at g (action_of g l.own other)) u in
      let size = length-map-range_with_len f 0 (lanes g) in
      record {
        same_length = size;
        low = λ q in_q.
            subst (λ x. negsuc 0 ≤ℤ x) (sym (get_or-map-range_with_len f 0 (lanes g) q q (pos 0) (omega arith) (omega arith)))
            (arrived_low (bound g) (action_at g (action_of g l.own other)) u q);
        high = keeps_next other l lt e [] tt;
      }

  -- a move of the machine leads to what is covered
  move_works : (other : ℕ) (l : Line) → other < 2 ^ other_width g → choice (lines_at m s) other ≡ Some l → action_works g vs u (action_of g l.own other) ≡ true
  move_works other l lt e =
      let n = line other l e in
      covers m l.next (successor g (action_of g l.own other) u) fits n.2 (next_vector other l lt e) (keeps_next other l lt e)

  -- kind Second: in each class the option of the machine's answer to its least valuation works
  second_answers : g.kind ≡ Second → covering_of Second g → answers_by Second g vs u ≡ true
  second_answers kind covering =
      all_from (λ c. some_works g vs u c) g.classes
      (All-from_get_or (λ (c : ClassData). some_works g vs u c ≡ true) g.classes no_class (λ place lt. class_works place lt))
    where
      class_works : (place : ℕ) → place < length g.classes → some_works g vs u (class_at g place) ≡ true
      class_works place lt =
          let other : ℕ = (class_at g place).least in
          let in_other : other < 2 ^ other_width g = subst (λ k. other < 2 ^ of_first k (own_width g) (other_width g)) kind (known.classes place lt).least in
          let d = decided other in_other in
          let n = line other d.0 d.1 in
          let r = covering place d.0.own lt (subst (λ w. d.0.own < 2 ^ w) owns n.1) in
          list_any_at (λ o. action_works g vs u o.0) (class_at g place).options r.0 (0, 0) r.1
          (ap (action_works g vs u) r.2 ∙ move_works other d.0 in_other d.1)

  -- kind First: all options of the class of the machine's own valuation work
  first_answers : g.kind ≡ First → covering_of First g → answers_by First g vs u ≡ true
  first_answers kind covering =
      list_any_at (λ c. all_work g vs u c) g.classes place no_class in_classes
      (all_from (λ o. action_works g vs u o.0) (class_at g place).options
      (All-from_get_or (λ (o : ℕ × ℕ). action_works g vs u o.0 ≡ true) (class_at g place).options (0, 0) option_works))
    where
      begin : (l : Line) × (choice (lines_at m s) 0 ≡ Some l)
      begin = decided 0 (positive (other_width g))

      own : ℕ
      own = begin.0.own

      place : ℕ
      place = class_of g own

      in_classes : place < length g.classes
      in_classes = label_of-all (λ l. l < length g.classes) g.firsts known.firsts.tree known.firsts.labels own

      in_own : own < 2 ^ own_width g
      in_own = let n = line 0 begin.0 begin.1 in subst (λ w. own < 2 ^ w) owns n.1

      one : (other : ℕ) (l : Line) → choice (lines_at m s) other ≡ Some l → l.own ≡ own
      one other l e =
          let r = decides_at (lines_at m s) other l e in
          let b = decides_at (lines_at m s) 0 begin.0 begin.1 in
          let both = fits.machine.first (fits.kind ∙ kind) s [] in_s in
          sym (ap (λ (n : Line). n.own) r.2) ∙ both l r.0 b.0 r.1 b.1 ∙ same_own (lines_at m s) b.0 l begin.0 b.1 b.2

      option_works : (i : ℕ) → i < length (class_at g place).options → action_works g vs u (option_at (class_at g place) i).0 ≡ true
      option_works i lt =
          let other : ℕ = (option_at (class_at g place) i).1 in
          let in_other : other < 2 ^ other_width g = subst (λ k. other < 2 ^ of_second k (own_width g) (other_width g)) kind ((known.classes place in_classes).reply i lt) in
          let d = decided other in_other in
          ap (action_works g vs u) (covering own i in_own lt ∙ ap (λ o. action_of g o other) (sym (one other d.0 d.1)))
          ∙ move_works other d.0 in_other d.1

  answered_by : (kind : Kind) → g.kind ≡ kind → covering_of kind g → answers_by kind g vs u ≡ true
  answered_by First kind covering = first_answers kind covering
  answered_by Second kind covering = second_answers kind covering

  pub kept_answered : CoversLetters g → answers g vs u ≡ true
  kept_answered covering = answered_by g.kind refl covering
