-- What the loops over the steps of a row compute.
use Rattle.std.proofs.Common.{◌≡◌, ℕ, zero, suc, ◌+◌, ◌<◌, ◌≤◌, true, false, List, [], ◌∷◌, length, refl, sym, ◌∙◌, ap, arith, get_or-set_same, get_or-set_other, get_or, drop, subst, add-one, drop-cons, length-set, inl, inr}
use Rattle.std.proofs.lemmas.Bool.{cases_eq}
use Rattle.std.specs.Prelude.{ℤ, pos, negsuc, ◌+ℤ◌, ◌-ℤ◌, ◌≤ℤ◌, ◌<ℤ◌, slice_set, nat_eq, min, ◌≢◌}
use Rattle.std.proofs.Math.ListN.{drop_of_length-le}
use lib.IntN.{sub_ℕ}
use mir.Val.{SFits}
use mir.Syntax.{w16}
use Rattle.std.specs.Int.{int_max, int_min}
use Rattle.std.proofs.lemmas.Int.{ints, clamps}
use Rattle.game_form.specs.declared.actions.Step.{Step}
use Rattle.game_form.specs.Game.{IsRow, row_at}
use Rattle.game_form.specs.Vector.{lane, size_of, number, brought, arrived, allowed, allowed_for}
use Rattle.counter_vec.specs.Counters.{AreCounters}

pub pos-size_of : (k : ℤ) → pos 0 ≤ℤ k → pos (size_of k) ≡ k
pos-size_of (pos n) h = refl
pos-size_of (negsuc n) h = absurd (omega (arith, ints))

nat_eq-refl : (n : ℕ) → nat_eq n n ≡ true
nat_eq-refl n = grind arith

nat_eq-apart : (m n : ℕ) → m ≢ n → nat_eq m n ≡ false
nat_eq-apart m n h = grind arith

-- no step leads below the first end
pub number_below : (lanes low p : ℕ) (steps : List Step) → IsRow lanes low steps → p < low → number steps p ≡ 0
number_below lanes low p [] row lt = refl
number_below lanes low p (s ∷ rest) row lt =
    rw (nat_eq-apart s.to p (omega arith)) (number_below lanes (suc s.to) p rest row.4 (omega arith))

pub number_here : (s : Step) (rest : List Step) → number (s ∷ rest) s.to ≡ size_of s.number
number_here s rest = rw (nat_eq-refl s.to)

pub number_there : (s : Step) (rest : List Step) (p : ℕ) → p ≢ s.to → number (s ∷ rest) p ≡ number rest p
number_there s rest p ne = rw (nat_eq-apart s.to p (omega arith))

sub_suc : (m : ℕ) → sub_ℕ (suc m) 1 ≡ pos m
sub_suc m = grind (arith, ints)

min_pos : (a b : ℕ) → int_min (pos a) (pos b) ≡ pos (min a b)
min_pos a b = grind arith

-- what one step brings, as the code computes it
pub brought_is : (k value r : ℤ) → pos 0 ≤ℤ k → pos 0 ≤ℤ value → pos 1 ≤ℤ r
    → int_min (k +ℤ pos 1) ((value +ℤ r) -ℤ pos 1) ≡ brought (size_of k) value (size_of r)
brought_is (pos k) (pos n) (pos zero) hk hv hr = absurd (omega (arith, ints))
brought_is (pos k) (pos n) (pos (suc r)) hk hv hr =
    let f : n + suc r ≡ suc (n + r) = omega arith in
    let e : sub_ℕ (n + suc r) 1 ≡ pos (n + r) = ap (λ m. sub_ℕ m 1) f ∙ sub_suc (n + r) in
    rw e (min_pos (k + 1) (n + r))
brought_is (negsuc k) v r hk hv hr = absurd (omega (arith, ints))
brought_is (pos k) (negsuc n) r hk hv hr = absurd (omega (arith, ints))
brought_is (pos k) (pos n) (negsuc r) hk hv hr = absurd (omega (arith, ints))

max_floor : (x : ℤ) → negsuc 0 ≤ℤ x → int_max x (negsuc 0) ≡ x
max_floor x h = omega (arith, ints, clamps)

brought_none : (k : ℕ) (x : ℤ) → brought k x 0 ≡ negsuc 0
brought_none k (pos n) = refl
brought_none k (negsuc n) = refl

-- one step of the loop over a row
pub raised_more : (lanes low : ℕ) (out : List ℤ) (s : Step) (rest : List Step) (k : ℕ) (value x : ℤ) → IsRow lanes low (s ∷ rest)
    → lanes ≡ length out → AreCounters out → x ≡ int_max (lane out s.to) (brought k value (size_of s.number))
    → (p : ℕ) → p < length out
    → int_max (lane (slice_set out s.to x) p) (brought k value (number rest p)) ≡ int_max (lane out p) (brought k value (number (s ∷ rest) p))
raised_more lanes low out s rest k value x row same low_is e p lt =
    elim (cases_eq p s.to) as (λ _. int_max (lane (slice_set out s.to x) p) (brought k value (number rest p)) ≡ int_max (lane out p) (brought k value (number (s ∷ rest) p)))
    [ inl at ↦ here p at | inr ne ↦ there p ne ]
  where
    here : (p : ℕ) → p ≡ s.to → int_max (lane (slice_set out s.to x) p) (brought k value (number rest p)) ≡ int_max (lane out p) (brought k value (number (s ∷ rest) p))
    here p at =
        let none : brought k value (number rest s.to) ≡ negsuc 0 = ap (brought k value) (number_below lanes (suc s.to) s.to rest row.4 (omega arith)) ∙ brought_none k value in
        let old : negsuc 0 ≤ℤ lane out s.to = low_is s.to (omega (arith, row.1)) in
        let got : lane (slice_set out s.to x) s.to ≡ x = get_or-set_same out s.to x (pos 0) (omega (arith, row.1)) in
        rw (at, none, got, number_here s rest) (max_floor x (omega (arith, ints, clamps)) ∙ e)

    there : (p : ℕ) → p ≢ s.to → int_max (lane (slice_set out s.to x) p) (brought k value (number rest p)) ≡ int_max (lane out p) (brought k value (number (s ∷ rest) p))
    there p ne = rw (get_or-set_other out s.to p x (pos 0) ne, number_there s rest p ne)

max_assoc : (a b c : ℤ) → int_max (int_max a b) c ≡ int_max a (int_max b c)
max_assoc a b c = omega (arith, ints, clamps)

-- one lane of the loop over the lanes
pub arrived_more : (k : ℕ) (out : ℤ) (new x : ℤ) (row : List Step) (rows : List (List Step)) (f : List ℤ) (p : ℕ)
    → new ≡ int_max out (brought k x (number row p)) → int_max new (arrived k rows f p) ≡ int_max out (arrived k (row ∷ rows) (x ∷ f) p)
arrived_more k out new x row rows f p e = rw e (max_assoc out (brought k x (number row p)) (arrived k rows f p))

-- a lane below 0 brings nothing
pub brought_below : (k : ℕ) (x : ℤ) (r : ℕ) → x <ℤ pos 0 → brought k x r ≡ negsuc 0
brought_below k (pos n) r h = absurd (omega (arith, ints))
brought_below k (negsuc n) r h = refl

-- what one step allows, as the code computes it
pub allowed_is : (k : ℕ) (x r : ℤ) → negsuc 0 ≤ℤ x → pos 1 ≤ℤ r → int_max (x -ℤ (r -ℤ pos 1)) (negsuc 0) ≡ allowed_for k x (size_of r)
allowed_is k (pos n) (pos zero) hx hr = absurd (omega (arith, ints))
allowed_is k (pos n) (pos (suc r)) hx hr =
    let e : pos n -ℤ (pos (suc r) -ℤ pos 1) ≡ pos n -ℤ pos r = omega (arith, ints) in
    rw e (grind (arith, ints))
allowed_is k (pos n) (negsuc r) hx hr = absurd (omega (arith, ints))
allowed_is k (negsuc n) (pos zero) hx hr = absurd (omega (arith, ints))
allowed_is k (negsuc n) (pos (suc r)) hx hr = omega (arith, ints, clamps)
allowed_is k (negsuc n) (negsuc r) hx hr = absurd (omega (arith, ints))

pub allowed_at_most : (k : ℕ) (row : List Step) (p : ℕ) (v : List ℤ) → allowed k row p v ≤ℤ pos k
allowed_at_most k row p [] = omega (arith, ints)
allowed_at_most k row p (x ∷ v) = omega (arith, ints, clamps, allowed_at_most k row (suc p) v)

pub allowed_nothing : (k : ℕ) (p : ℕ) (v : List ℤ) → allowed k [] p v ≡ pos k
allowed_nothing k p [] = refl
allowed_nothing k p (x ∷ v) = rw (allowed_nothing k (suc p) v) (omega (arith, ints, clamps))

-- a step to a lane before p counts for nothing from p on
allowed_skip : (k : ℕ) (s : Step) (rest : List Step) (p : ℕ) (v : List ℤ) → s.to < p → allowed k (s ∷ rest) p v ≡ allowed k rest p v
allowed_skip k s rest p [] lt = refl
allowed_skip k s rest p (x ∷ v) lt = rw (number_there s rest p (omega arith), allowed_skip k s rest (suc p) v (omega arith))

-- a step to the lane p + i
pub allowed_step : (k lanes low : ℕ) (s : Step) (rest : List Step) (p i : ℕ) (v : List ℤ) → IsRow lanes low (s ∷ rest) → s.to ≡ p + i → i < length v
    → allowed k (s ∷ rest) p v ≡ int_min (allowed_for k (lane v i) (size_of s.number)) (allowed k rest p v)
allowed_step k lanes low s rest p i [] row at lt = absurd (omega arith)
allowed_step k lanes low s rest p zero (x ∷ v) row at lt =
    let here : number (s ∷ rest) p ≡ size_of s.number = ap (number (s ∷ rest)) (omega arith) ∙ number_here s rest in
    let none : number rest p ≡ 0 = number_below lanes (suc s.to) p rest row.4 (omega arith) in
    let skip : allowed k (s ∷ rest) (suc p) v ≡ allowed k rest (suc p) v = allowed_skip k s rest (suc p) v (omega arith) in
    let most = allowed_at_most k rest (suc p) v in
    rw (here, none, skip) (omega (arith, ints, clamps))
allowed_step k lanes low s rest p (suc i) (x ∷ v) row at lt =
    let there : number (s ∷ rest) p ≡ number rest p = number_there s rest p (omega arith) in
    rw (there, allowed_step k lanes low s rest (suc p) i v row (omega arith) (omega arith)) (omega (arith, ints, clamps))

abbrev pub no_step : Step
no_step = record { to = 0; number = pos 0 }

steps_at : (steps : List Step) (i : ℕ) → i < length steps → drop i steps ≡ get_or steps i no_step ∷ drop (i + 1) steps
steps_at steps i lt = rw add-one (drop-cons steps i no_step lt)

pub step_within : (lanes : ℕ) (steps : List Step) (i : ℕ) → i < length steps → ((low : ℕ) × IsRow lanes low (drop i steps))
    → ((get_or steps i no_step).to < lanes) × (pos 1 ≤ℤ (get_or steps i no_step).number) × ((get_or steps i no_step).number ≤ℤ pos 2)
step_within lanes steps i lt (low, row) =
    let here : IsRow lanes low (get_or steps i no_step ∷ drop (i + 1) steps) = subst (IsRow lanes low) (steps_at steps i lt) row in
    (here.1, here.2, here.3)

pub number_fits : (n : ℤ) → (pos 1 ≤ℤ n) × (n ≤ℤ pos 2) → SFits w16 n
number_fits (pos n) (low, high) = record { sfits = omega (arith, ints) }
number_fits (negsuc n) (low, high) = absurd (omega (arith, ints))

rows_at : (rows : List (List Step)) (i : ℕ) → i < length rows → drop i rows ≡ row_at rows i ∷ drop (i + 1) rows
rows_at rows i lt = rw add-one (drop-cons rows i [] lt)

lanes_at : (f : List ℤ) (i : ℕ) → i < length f → drop i f ≡ lane f i ∷ drop (i + 1) f
lanes_at f i lt = rw add-one (drop-cons f i (pos 0) lt)

min_assoc : (a b c : ℤ) → int_min (int_min a b) c ≡ int_min a (int_min b c)
min_assoc a b c = omega (arith, ints, clamps)

arrived_nothing : (k : ℕ) (rows : List (List Step)) (p : ℕ) → arrived k rows [] p ≡ negsuc 0
arrived_nothing k [] p = refl
arrived_nothing k (row ∷ rows) p = refl

counters_set : (out : List ℤ) (i : ℕ) (x : ℤ) → AreCounters out → negsuc 0 ≤ℤ x → AreCounters (slice_set out i x)
counters_set out i x all low p lt =
    elim (cases_eq p i) as (λ _. negsuc 0 ≤ℤ lane (slice_set out i x) p) [
      | inl e ↦ (let len = length-set out i x in let got : lane (slice_set out i x) i ≡ x = get_or-set_same out i x (pos 0) (omega arith) in rw (e, got) low)
      | inr ne ↦ (let len = length-set out i x in rw (get_or-set_other out i p x (pos 0) ne) (all p (omega arith)))
    ]

pub along_more : (first out : List ℤ) (steps : List Step) (k : ℕ) (value x b n : ℤ) (i : ℕ) → i < length steps → AreCounters out
    → ((p : ℕ) → p < length out → int_max (lane out p) (brought k value (number (drop i steps) p)) ≡ int_max (lane first p) (brought k value (number steps p)))
    → ((low : ℕ) × IsRow (length out) low (drop i steps))
    → x ≡ int_max (lane out (get_or steps i no_step).to) b → b ≡ brought k value (size_of n) → n ≡ (get_or steps i no_step).number
    → AreCounters (slice_set out (get_or steps i no_step).to x)
    × ((p : ℕ) → p < length (slice_set out (get_or steps i no_step).to x) → int_max (lane (slice_set out (get_or steps i no_step).to x) p) (brought k value (number (drop (i + 1) steps) p)) ≡ int_max (lane first p) (brought k value (number steps p)))
    × ((low : ℕ) × IsRow (length (slice_set out (get_or steps i no_step).to x)) low (drop (i + 1) steps))
along_more first out steps k value x b n i lt counters same (low, row) ex eb en =
    let s : Step = get_or steps i no_step in
    let here : IsRow (length out) low (s ∷ drop (i + 1) steps) = subst (IsRow (length out) low) (steps_at steps i lt) row in
    let len : length (slice_set out s.to x) ≡ length out = length-set out s.to x in
    let e : x ≡ int_max (lane out s.to) (brought k value (size_of s.number)) = ex ∙ ap (int_max (lane out s.to)) (eb ∙ ap (λ m. brought k value (size_of m)) en) in (
      counters_set out s.to x counters (let low_is = counters s.to (omega (arith, here.1)) in omega (arith, ints, clamps)),
      (λ p h. raised_more (length out) low out s (drop (i + 1) steps) k value x here refl counters e p (omega arith)
          ∙ sym (ap (λ r. int_max (lane out p) (brought k value (number r p))) (steps_at steps i lt)) ∙ same p (omega arith)),
      (suc s.to, rw len here.4),
    )

pub lowest_more : (v : List ℤ) (steps : List Step) (k : ℕ) (kz least m b x n : ℤ) (i : ℕ) → i < length steps → least ≤ℤ kz
    → int_min least (allowed k (drop i steps) 0 v) ≡ allowed k steps 0 v
    → ((low : ℕ) × IsRow (length v) low (drop i steps))
    → m ≡ int_min least b → b ≡ allowed_for k x (size_of n) → x ≡ lane v (get_or steps i no_step).to → n ≡ (get_or steps i no_step).number
    → (m ≤ℤ kz) × (int_min m (allowed k (drop (i + 1) steps) 0 v) ≡ allowed k steps 0 v) × ((low : ℕ) × IsRow (length v) low (drop (i + 1) steps))
lowest_more v steps k kz least m b x n i lt most same (low, row) em eb ex en =
    let s : Step = get_or steps i no_step in
    let here : IsRow (length v) low (s ∷ drop (i + 1) steps) = subst (IsRow (length v) low) (steps_at steps i lt) row in
    let e : b ≡ allowed_for k (lane v s.to) (size_of s.number) = eb ∙ ap (λ y. allowed_for k y (size_of n)) ex ∙ ap (λ y. allowed_for k (lane v s.to) (size_of y)) en in
    let split : allowed k (drop i steps) 0 v ≡ int_min (allowed_for k (lane v s.to) (size_of s.number)) (allowed k (drop (i + 1) steps) 0 v) =
    ap (λ r. allowed k r 0 v) (steps_at steps i lt) ∙ allowed_step k (length v) low s (drop (i + 1) steps) 0 s.to v here (omega arith) (omega (arith, here.1)) in (
      omega (arith, ints, clamps),
      rw (em, e) (min_assoc least _ _ ∙ sym (ap (int_min least) split) ∙ same),
      (suc s.to, here.4),
    )

pub lowest_begins : (k : ℕ) (steps : List Step) (v : List ℤ) → int_min (pos k) (allowed k steps 0 v) ≡ allowed k steps 0 v
lowest_begins k steps v = omega (arith, ints, clamps, allowed_at_most k steps 0 v)

pub lowest_ends : (k : ℕ) (least : ℤ) (steps rest : List Step) (v : List ℤ) → rest ≡ [] → least ≤ℤ pos k
    → int_min least (allowed k rest 0 v) ≡ allowed k steps 0 v → least ≡ allowed k steps 0 v
lowest_ends k least steps rest v none most same =
    let e : allowed k rest 0 v ≡ pos k = ap (λ r. allowed k r 0 v) none ∙ allowed_nothing k 0 v in
    omega (arith, ints, clamps)

-- a lane that is not below 0 is raised, and one below 0 brings nothing
pub lanes_more : (k : ℕ) (first out new : List ℤ) (rows : List (List Step)) (f : List ℤ) (q : ℕ) → q < length rows → q < length f
    → ((p : ℕ) → p < length out → int_max (lane out p) (arrived k (drop q rows) (drop q f) p) ≡ int_max (lane first p) (arrived k rows f p))
    → length new ≡ length out
    → ((p : ℕ) → p < length new → lane new p ≡ int_max (lane out p) (brought k (lane f q) (number (row_at rows q) p)))
    → (p : ℕ) → p < length new → int_max (lane new p) (arrived k (drop (q + 1) rows) (drop (q + 1) f) p) ≡ int_max (lane first p) (arrived k rows f p)
lanes_more k first out new rows f q in_rows in_f same len each p lt =
    let e : arrived k (drop q rows) (drop q f) p ≡ arrived k (row_at rows q ∷ drop (q + 1) rows) (lane f q ∷ drop (q + 1) f) p =
    ap (λ r. arrived k r (drop q f) p) (rows_at rows q in_rows) ∙ ap (λ g. arrived k (row_at rows q ∷ drop (q + 1) rows) g p) (lanes_at f q in_f) in
    arrived_more k (lane out p) (lane new p) (lane f q) (row_at rows q) (drop (q + 1) rows) (drop (q + 1) f) p (each p lt)
    ∙ sym (ap (int_max (lane out p)) e) ∙ same p (omega arith)

-- a lane below 0 leaves all as it is
pub lane_skip : (k : ℕ) (out : List ℤ) (x : ℤ) (row : List Step) → AreCounters out → x <ℤ pos 0
    → (p : ℕ) → p < length out → lane out p ≡ int_max (lane out p) (brought k x (number row p))
lane_skip k out x row counters below p lt = rw (brought_below k x (number row p) below) (sym (max_floor (lane out p) (counters p lt)))

pub lanes_end : (k : ℕ) (first out : List ℤ) (rows more : List (List Step)) (f rest : List ℤ) → rest ≡ [] → AreCounters out
    → ((p : ℕ) → p < length out → int_max (lane out p) (arrived k more rest p) ≡ int_max (lane first p) (arrived k rows f p))
    → (p : ℕ) → p < length out → lane out p ≡ int_max (lane first p) (arrived k rows f p)
lanes_end k first out rows more f rest none counters same p lt =
    let e : arrived k more rest p ≡ negsuc 0 = ap (λ g. arrived k more g p) none ∙ arrived_nothing k more p in
    sym (ap (int_max (lane out p)) e ∙ max_floor (lane out p) (counters p lt)) ∙ same p lt

pub drop_all : {X : Type 0} (xs : List X) (i : ℕ) → length xs ≤ i → drop i xs ≡ []
drop_all xs i h = drop_of_length-le xs h
