-- What is left after each loop.
use Rattle.std.proofs.Common.{◌≡◌, ℕ, zero, suc, ◌+◌, ◌<◌, Bool, true, false, ◌&&◌, ◌||◌, List, [], ◌∷◌, length, drop, get_or, refl, sym, ◌∙◌, ap, arith, add-one, drop-cons, subst}
use Rattle.std.specs.Prelude.{ℤ, int_le}
use Rattle.std.specs.Int.{int_min}
use Rattle.std.proofs.lemmas.Int.{ints}
use Rattle.std.specs.List.{list_any, list_all, AllByRecursion}
use Rattle.antichain_list.specs.Antichain.{covered, added}
use Rattle.antichain_list.specs.Covering.{covered-added, all_added}
use Rattle.game_form.specs.Game.{GameData, ClassData, class_at, no_class, IsGame}
use Rattle.game_form.specs.Vector.{IsVector, lane, successor, predecessor}
use Rattle.counter_vec.specs.Counters.{at_or_below, lexicographic, met}
use Rattle.counter_vec.specs.Orders.{counters_order, below-refl}
use Rattle.counter_vec.proofs.Galois.{galois}
use Rattle.cpre_step.specs.Refinement.{AreVectors, action_works, some_works, all_work}

and_four : (a b c d : Bool) → ((a && b) && (c && d)) ≡ ((a && c) && (b && d))
and_four true true c d = refl
and_four true false true d = refl
and_four true false false d = refl
and_four false b c d = refl

le_min : (x y z : ℤ) → int_le x (int_min y z) ≡ (int_le x y && int_le x z)
le_min x y z = grind (arith, ints)

-- at or below a meet: at or below both
pub below-met : (u v w : List ℤ) → length v ≡ length w → at_or_below u (met v w) ≡ (at_or_below u v && at_or_below u w)
below-met [] [] [] e = refl
below-met [] [] (z ∷ w) e = absurd (omega arith)
below-met [] (y ∷ v) [] e = absurd (omega arith)
below-met [] (y ∷ v) (z ∷ w) e = refl
below-met (x ∷ u) [] [] e = refl
below-met (x ∷ u) [] (z ∷ w) e = absurd (omega arith)
below-met (x ∷ u) (y ∷ v) [] e = absurd (omega arith)
below-met (x ∷ u) (y ∷ v) (z ∷ w) e =
    ap (λ b. b && at_or_below u (met v w)) (le_min x y z) ∙ ap (λ b. (int_le x y && int_le x z) && b) (below-met u v w (omega arith))
    ∙ and_four (int_le x y) (int_le x z) (at_or_below u v) (at_or_below u w)

pub covered-put : (u v : List ℤ) (list : List (List ℤ)) → covered at_or_below u (added at_or_below lexicographic v list) ≡ (covered at_or_below u list || at_or_below u v)
covered-put = covered-added at_or_below lexicographic counters_order

pub vectors-put : (g : GameData) (v : List ℤ) (list : List (List ℤ)) → IsVector g v → AreVectors g list → AreVectors g (added at_or_below lexicographic v list)
vectors-put g v list = all_added (IsVector g) at_or_below lexicographic v list

-- the meet of vectors is a vector
length-met : (u v : List ℤ) → length u ≡ length v → length (met u v) ≡ length u
length-met [] v e = refl
length-met (x ∷ u) [] e = absurd (omega arith)
length-met (x ∷ u) (y ∷ v) e = omega (arith, length-met u v (omega arith))

lane-met : (u v : List ℤ) (p : ℕ) → length u ≡ length v → p < length u → lane (met u v) p ≡ int_min (lane u p) (lane v p)
lane-met [] v p e lt = absurd (omega arith)
lane-met (x ∷ u) [] p e lt = absurd (omega arith)
lane-met (x ∷ u) (y ∷ v) zero e lt = refl
lane-met (x ∷ u) (y ∷ v) (suc p) e lt = lane-met u v p (omega arith) (omega arith)

pub vector-met : (g : GameData) (u v : List ℤ) → IsVector g u → IsVector g v → IsVector g (met u v)
vector-met g u v hu hv =
    let lu = hu.same_length in
    let lv = hv.same_length in
    let lm = length-met u v (omega arith) in
    record {
      same_length = omega arith;
      low = λ p lt. (let e = lane-met u v p (omega arith) (omega arith) in let a = hu.low p (omega arith) in let b = hv.low p (omega arith) in rw e (grind (arith, ints)));
      high = λ p lt. (let e = lane-met u v p (omega arith) (omega arith) in let a = hu.high p (omega arith) in rw e (grind (arith, ints)));
    }

abbrev pub C : List ℤ → List (List ℤ) → Bool
C u list = covered at_or_below u list

pub from_place : {X : Type 0} (xs : List X) (i : ℕ) (x : X) → i < length xs → x ≡ get_or xs i x → drop i xs ≡ x ∷ drop (i + 1) xs
from_place xs i x lt is = rw add-one (drop-cons xs i x lt ∙ ap (λ y. y ∷ drop (suc i) xs) (sym is))

pub all_at : {X : Type 0} (P : X → Type 0) (xs : List X) (i : ℕ) (x : X) → i < length xs → x ≡ get_or xs i x → AllByRecursion P xs → P x
all_at P [] i x lt is h = absurd (omega arith)
all_at P (y ∷ ys) zero x lt is h = subst P (sym is) h.0
all_at P (y ∷ ys) (suc i) x lt is h = all_at P ys i x (omega arith) is h.1

-- one more member of `from` met
meets_step : (l x m r : Bool) → ((l || (x && m)) || (r && m)) ≡ (l || ((x || r) && m))
meets_step true x m r = refl
meets_step false true true r = refl
meets_step false true false true = refl
meets_step false true false false = refl
meets_step false false m r = refl

pub meets_more : (first left from : List (List ℤ)) (most x : List ℤ) (i : ℕ) → i < length from → x ≡ get_or from i x → length x ≡ length most
    → ((u : List ℤ) → (C u left || (C u (drop i from) && at_or_below u most)) ≡ (C u first || (C u from && at_or_below u most)))
    → (u : List ℤ) → (C u (added at_or_below lexicographic (met x most) left) || (C u (drop (i + 1) from) && at_or_below u most)) ≡ (C u first || (C u from && at_or_below u most))
meets_more first left from most x i lt is len same u =
    ap (λ b. b || (C u (drop (i + 1) from) && at_or_below u most)) (covered-put u (met x most) left ∙ ap (λ b. C u left || b) (below-met u x most len))
    ∙ meets_step (C u left) (at_or_below u x) (at_or_below u most) (C u (drop (i + 1) from))
    ∙ sym (ap (λ list. C u left || (C u list && at_or_below u most)) (from_place from i x lt is)) ∙ same u

and_false : (b : Bool) → (b && false) ≡ false
and_false true = refl
and_false false = refl

pub or_false : (b : Bool) → (b || false) ≡ b
or_false true = refl
or_false false = refl

-- nothing is left to do
pub meets_end : (first left from rest : List (List ℤ)) (most : List ℤ) → rest ≡ []
    → ((u : List ℤ) → (C u left || (C u rest && at_or_below u most)) ≡ (C u first || (C u from && at_or_below u most)))
    → (u : List ℤ) → C u left ≡ (C u first || (C u from && at_or_below u most))
meets_end first left from rest most none same u =
    sym (ap (λ list. C u left || (C u list && at_or_below u most)) none ∙ or_false (C u left)) ∙ same u

-- one more entry whose predecessor was met
works_step : (l f x r : Bool) → ((l || (f && x)) || (f && r)) ≡ (l || (f && (x || r)))
works_step true f x r = refl
works_step false true x r = refl
works_step false false x r = refl

pub working_more : (g : GameData) → IsGame g → (first left new from entries : List (List ℤ)) (e most : List ℤ) (action i : ℕ) → action < length g.actions
    → i < length entries → e ≡ get_or entries i e → IsVector g e → most ≡ predecessor g action e
    → ((u : List ℤ) → C u new ≡ (C u left || (C u from && at_or_below u most)))
    → ((u : List ℤ) → IsVector g u → (C u left || (C u from && action_works g (drop i entries) u action)) ≡ (C u first || (C u from && action_works g entries u action)))
    → (u : List ℤ) → IsVector g u → (C u new || (C u from && action_works g (drop (i + 1) entries) u action)) ≡ (C u first || (C u from && action_works g entries u action))
working_more g known first left new from entries e most action i in_actions lt is vector_e most_is made same u vector_u =
    let s : List ℤ = successor g action u in
    let here : at_or_below u most ≡ at_or_below s e = ap (at_or_below u) most_is ∙ sym (galois g known action in_actions u e vector_u vector_e) in
    ap (λ b. b || (C u from && C s (drop (i + 1) entries))) (made u ∙ ap (λ b. C u left || (C u from && b)) here)
    ∙ works_step (C u left) (C u from) (at_or_below s e) (C s (drop (i + 1) entries))
    ∙ sym (ap (λ list. C u left || (C u from && C s list)) (from_place entries i e lt is)) ∙ same u vector_u

pub working_end : (g : GameData) (first left from entries rest : List (List ℤ)) (action : ℕ) → rest ≡ []
    → ((u : List ℤ) → IsVector g u → (C u left || (C u from && action_works g rest u action)) ≡ (C u first || (C u from && action_works g entries u action)))
    → (u : List ℤ) → IsVector g u → C u left ≡ (C u first || (C u from && action_works g entries u action))
working_end g first left from entries rest action none same u v =
    sym (ap (λ list. C u left || (C u from && C (successor g action u) list)) none ∙ ap (λ b. C u left || b) (and_false (C u from)) ∙ or_false (C u left)) ∙ same u v

abbrev pub Options : Type 0
Options = List (ℕ × ℕ)

abbrev pub some_of : GameData → List (List ℤ) → List ℤ → Options → Bool
some_of g list u options = list_any (λ o. action_works g list u o.0) options

abbrev pub all_of : GameData → List (List ℤ) → List ℤ → Options → Bool
all_of g list u options = list_all (λ o. action_works g list u o.0) options

pub some_more : (g : GameData) (left new from entries : List (List ℤ)) (options : Options) (o : ℕ × ℕ) (i : ℕ) → i < length options → o ≡ get_or options i o
    → ((u : List ℤ) → IsVector g u → C u new ≡ (C u left || (C u from && action_works g entries u o.0)))
    → ((u : List ℤ) → IsVector g u → (C u left || (C u from && some_of g entries u (drop i options))) ≡ (C u from && some_of g entries u options))
    → (u : List ℤ) → IsVector g u → (C u new || (C u from && some_of g entries u (drop (i + 1) options))) ≡ (C u from && some_of g entries u options)
some_more g left new from entries options o i lt is made same u v =
    ap (λ b. b || (C u from && some_of g entries u (drop (i + 1) options))) (made u v)
    ∙ works_step (C u left) (C u from) (action_works g entries u o.0) (some_of g entries u (drop (i + 1) options))
    ∙ sym (ap (λ (os : Options). C u left || (C u from && some_of g entries u os)) (from_place options i o lt is)) ∙ same u v

pub some_end : (g : GameData) (left from entries : List (List ℤ)) (options rest : Options) → rest ≡ []
    → ((u : List ℤ) → IsVector g u → (C u left || (C u from && some_of g entries u rest)) ≡ (C u from && some_of g entries u options))
    → (u : List ℤ) → IsVector g u → C u left ≡ (C u from && some_of g entries u options)
some_end g left from entries options rest none same u v =
    sym (ap (λ (os : Options). C u left || (C u from && some_of g entries u os)) none ∙ ap (λ b. C u left || b) (and_false (C u from)) ∙ or_false (C u left)) ∙ same u v

and_assoc : (a b c : Bool) → ((a && b) && c) ≡ (a && (b && c))
and_assoc true b c = refl
and_assoc false b c = refl

and_true : (b : Bool) → (b && true) ≡ b
and_true true = refl
and_true false = refl

pub all_more : (g : GameData) (left new entries : List (List ℤ)) (f : List ℤ) (options : Options) (o : ℕ × ℕ) (i : ℕ) → i < length options → o ≡ get_or options i o
    → ((u : List ℤ) → IsVector g u → C u new ≡ (C u left && action_works g entries u o.0))
    → ((u : List ℤ) → IsVector g u → (C u left && all_of g entries u (drop i options)) ≡ (at_or_below u f && all_of g entries u options))
    → (u : List ℤ) → IsVector g u → (C u new && all_of g entries u (drop (i + 1) options)) ≡ (at_or_below u f && all_of g entries u options)
all_more g left new entries f options o i lt is made same u v =
    ap (λ b. b && all_of g entries u (drop (i + 1) options)) (made u v)
    ∙ and_assoc (C u left) (action_works g entries u o.0) (all_of g entries u (drop (i + 1) options))
    ∙ sym (ap (λ (os : Options). C u left && all_of g entries u os) (from_place options i o lt is)) ∙ same u v

pub all_end : (g : GameData) (left entries : List (List ℤ)) (f : List ℤ) (options rest : Options) → rest ≡ []
    → ((u : List ℤ) → IsVector g u → (C u left && all_of g entries u rest) ≡ (at_or_below u f && all_of g entries u options))
    → (u : List ℤ) → IsVector g u → C u left ≡ (at_or_below u f && all_of g entries u options)
all_end g left entries f options rest none same u v =
    sym (ap (λ (os : Options). C u left && all_of g entries u os) none ∙ and_true (C u left)) ∙ same u v

abbrev pub each_class : GameData → List (List ℤ) → List ℤ → List ClassData → Bool
each_class g list u classes = list_all (λ c. some_works g list u c) classes

abbrev pub any_class : GameData → List (List ℤ) → List ℤ → List ClassData → Bool
any_class g list u classes = list_any (λ c. all_work g list u c) classes

classes_from : (classes : List ClassData) (i : ℕ) → i < length classes → drop i classes ≡ get_or classes i no_class ∷ drop (i + 1) classes
classes_from classes i lt = rw add-one (drop-cons classes i no_class lt)

pub each_more : (g : GameData) (left new entries : List (List ℤ)) (f : List ℤ) (c : ClassData) (i : ℕ) → i < length g.classes → c ≡ class_at g i
    → ((u : List ℤ) → IsVector g u → C u new ≡ (C u left && some_works g entries u c))
    → ((u : List ℤ) → IsVector g u → (C u left && each_class g entries u (drop i g.classes)) ≡ (at_or_below u f && each_class g entries u g.classes))
    → (u : List ℤ) → IsVector g u → (C u new && each_class g entries u (drop (i + 1) g.classes)) ≡ (at_or_below u f && each_class g entries u g.classes)
each_more g left new entries f c i lt is made same u v =
    ap (λ b. b && each_class g entries u (drop (i + 1) g.classes)) (made u v ∙ ap (λ d. C u left && some_works g entries u d) is)
    ∙ and_assoc (C u left) (some_works g entries u (class_at g i)) (each_class g entries u (drop (i + 1) g.classes))
    ∙ sym (ap (λ (cs : List ClassData). C u left && each_class g entries u cs) (classes_from g.classes i lt)) ∙ same u v

pub each_end : (g : GameData) (left entries : List (List ℤ)) (f : List ℤ) (rest : List ClassData) → rest ≡ []
    → ((u : List ℤ) → IsVector g u → (C u left && each_class g entries u rest) ≡ (at_or_below u f && each_class g entries u g.classes))
    → (u : List ℤ) → IsVector g u → C u left ≡ (at_or_below u f && each_class g entries u g.classes)
each_end g left entries f rest none same u v =
    sym (ap (λ (cs : List ClassData). C u left && each_class g entries u cs) none ∙ and_true (C u left)) ∙ same u v

pub any_more : (g : GameData) (left part new entries : List (List ℤ)) (f : List ℤ) (c : ClassData) (i : ℕ) → i < length g.classes → c ≡ class_at g i
    → ((u : List ℤ) → C u new ≡ (C u left || C u part))
    → ((u : List ℤ) → IsVector g u → C u part ≡ (at_or_below u f && all_work g entries u c))
    → ((u : List ℤ) → IsVector g u → (C u left || (at_or_below u f && any_class g entries u (drop i g.classes))) ≡ (at_or_below u f && any_class g entries u g.classes))
    → (u : List ℤ) → IsVector g u → (C u new || (at_or_below u f && any_class g entries u (drop (i + 1) g.classes))) ≡ (at_or_below u f && any_class g entries u g.classes)
any_more g left part new entries f c i lt is made here same u v =
    ap (λ b. b || (at_or_below u f && any_class g entries u (drop (i + 1) g.classes))) (made u ∙ ap (λ b. C u left || b) (here u v ∙ ap (λ d. at_or_below u f && all_work g entries u d) is))
    ∙ works_step (C u left) (at_or_below u f) (all_work g entries u (class_at g i)) (any_class g entries u (drop (i + 1) g.classes))
    ∙ sym (ap (λ (cs : List ClassData). C u left || (at_or_below u f && any_class g entries u cs)) (classes_from g.classes i lt)) ∙ same u v

pub any_end : (g : GameData) (left entries : List (List ℤ)) (f : List ℤ) (rest : List ClassData) → rest ≡ []
    → ((u : List ℤ) → IsVector g u → (C u left || (at_or_below u f && any_class g entries u rest)) ≡ (at_or_below u f && any_class g entries u g.classes))
    → (u : List ℤ) → IsVector g u → C u left ≡ (at_or_below u f && any_class g entries u g.classes)
any_end g left entries f rest none same u v =
    sym (ap (λ (cs : List ClassData). C u left || (at_or_below u f && any_class g entries u cs)) none ∙ ap (λ b. C u left || b) (and_false (at_or_below u f)) ∙ or_false (C u left)) ∙ same u v

-- all of a list put
pub puts_more : (first left part : List (List ℤ)) (x : List ℤ) (i : ℕ) → i < length part → x ≡ get_or part i x
    → ((u : List ℤ) → (C u left || C u (drop i part)) ≡ (C u first || C u part))
    → (u : List ℤ) → (C u (added at_or_below lexicographic x left) || C u (drop (i + 1) part)) ≡ (C u first || C u part)
puts_more first left part x i lt is same u =
    ap (λ b. b || C u (drop (i + 1) part)) (covered-put u x left) ∙ or_assoc (C u left) (at_or_below u x) (C u (drop (i + 1) part))
    ∙ sym (ap (λ list. C u left || C u list) (from_place part i x lt is)) ∙ same u
  where
    or_assoc : (a b c : Bool) → ((a || b) || c) ≡ (a || (b || c))
    or_assoc true b c = refl
    or_assoc false b c = refl

pub puts_end : (first left part rest : List (List ℤ)) → rest ≡ [] → ((u : List ℤ) → (C u left || C u rest) ≡ (C u first || C u part))
    → (u : List ℤ) → C u left ≡ (C u first || C u part)
puts_end first left part rest none same u = sym (ap (λ list. C u left || C u list) none ∙ or_false (C u left)) ∙ same u

-- f itself is not left
pub not_kept : (f : List ℤ) (answer : Bool) → (at_or_below f f && answer) ≡ false → answer ≡ false
not_kept f answer h = sym (ap (λ b. b && answer) (below-refl f)) ∙ h
