-- The search for the least valuation with a label, from the last signal to the first.
use Rattle.std.proofs.Common.{Bool, true, false, cond, ◌≡◌, ◌≢◌, ℕ, zero, suc, ◌+◌, ◌-◌, ◌*◌, ◌/◌, ◌%◌, ◌^◌, ◌==◌, ◌<◌, ◌≤◌, List, ◌++◌, length, take, drop, Option, Some, None, refl, sym, ap, ◌∙◌, subst, arith, inl, inr, ◌⊎◌, bit_or, eqb, leb}
use Rattle.std.proofs.lemmas.Bool.{cases_lt}
use Rattle.std.proofs.lemmas.Bool.Decides.{Decides-eqb, nat_tests}
use Rattle.std.proofs.lemmas.List.{length-take-le, take-append-drop}
use Rattle.std.proofs.lemmas.Nat.{pow_pos, pow_below, shr_split, shr_high, mod_low, or_shifted, one_shl}
use Rattle.std.proofs.lemmas.Option.{slice_get_within}
use Rattle.std.proofs.Math.Nat.{mod-eq_of_lt}
use Rattle.std.specs.List.{slice_get}
use Rattle.word_core.specs.declared.branches.Branch.{Branch}
use Rattle.word_core.specs.declared.branches.Branch.TheVariants.{Leaf, Split}
use Rattle.word_core.specs.Tree.{label_at, label_of}
use Rattle.letter_tree.specs.Diagram.{top, IsFork, IsDiagram, IsRooted}
use Rattle.letter_tree.specs.Leading.{IsLeast, Leads, EndsIn, PartEndsIn, IsBegun}
use Rattle.letter_tree.proofs.Diagrams.{IsDiagram-front, label_at-front, label_at-split}
use Rattle.letter_tree.proofs.Distinct.{label_later}
use Rattle.letter_tree.proofs.Joints.{fork_at}
use Rattle.letter_tree.proofs.Paths.{HasPath, on_to, sum_small, path_to}
use Rattle.letter_tree.proofs.SumSteps.{side_at, set_bit, unset_bit, fewer, below_power, power_next}

-- the first nodes lead to the same label
pub walked : (w : ℕ) (nodes : List Branch) → IsDiagram w nodes → (place bits : ℕ) → place < length nodes → label_of (take (place + 1) nodes) bits ≡ label_at nodes place bits
walked w nodes d place bits h =
    let size : length (take (place + 1) nodes) ≡ place + 1 = length-take-le (place + 1) nodes (omega arith) in
    let last : length (take (place + 1) nodes) - 1 ≡ place = omega arith in
    let parts : take (place + 1) nodes ++ drop (place + 1) nodes ≡ nodes = take-append-drop (place + 1) nodes in
    let front : IsDiagram w (take (place + 1) nodes) = IsDiagram-front w (take (place + 1) nodes) (drop (place + 1) nodes) (subst (IsDiagram w) (sym parts) d) in
    ap (λ p. label_at (take (place + 1) nodes) p bits) last
    ∙ sym (label_at-front w (take (place + 1) nodes) (drop (place + 1) nodes) front place bits (omega (arith, size)))
    ∙ ap (λ t. label_at t place bits) parts

whole_blocks : (bits s low : ℕ) → bits % 2 ^ s ≡ 0 → bits + low ≡ bits / 2 ^ s * 2 ^ s + low
whole_blocks bits s low e = (let k : bits / 2 ^ s * 2 ^ s + bits % 2 ^ s ≡ bits = shr_split bits s in omega arith)

same_above : (bits s low : ℕ) → bits % 2 ^ s ≡ 0 → low < 2 ^ s → (bits + low) / 2 ^ s ≡ bits / 2 ^ s
same_above bits s low e h = ap (λ n. n / 2 ^ s) (whole_blocks bits s low e) ∙ shr_high (bits / 2 ^ s) s low h

low_below : (bits s low : ℕ) → bits % 2 ^ s ≡ 0 → low < 2 ^ s → (bits + low) % 2 ^ s ≡ low
low_below bits s low e h = ap (λ n. n % 2 ^ s) (whole_blocks bits s low e) ∙ mod_low (bits / 2 ^ s) s low h

module _ (w : ℕ) (nodes : List Branch) (r : IsRooted w nodes) (signal bits label : ℕ) (whole : bits % 2 ^ signal ≡ 0)
  where
    -- a part where these bits lead to the label is met on some way
    part_found : (place s lo hi : ℕ) (v : Bool) (low : ℕ) → slice_get nodes place ≡ Some (Split s lo hi) → (p : HasPath w nodes place) → s < signal → low < 2 ^ (s + 1)
        → ((x : ℕ) → x % 2 ^ (s + 1) ≡ low → ((x / 2 ^ s % 2 == 1) ≡ v) × (x % 2 ^ s ≡ p.sum)) → EndsIn w nodes signal bits label (cond v hi lo) → Leads nodes signal bits label
    part_found place s lo hi v low e p less small bit ends = (
      low,
      low_in,
      on_to w nodes r.diagram place s lo hi e p (bits + low) v at.1 at.0 ∙ label_later w nodes r.diagram (cond v hi lo) signal (bits + low) bits ends.0 (same_above bits signal low whole low_in) ∙ ends.1,
    )
      where
        next : s + 1 ≤ signal
        next = omega arith

        low_in : low < 2 ^ signal
        low_in = below_power (s + 1) signal low next small

        at : ((((bits + low) / 2 ^ s % 2) == 1) ≡ v) × ((bits + low) % 2 ^ s ≡ p.sum)
        at = bit (bits + low) (fewer (bits + low) (s + 1) signal low next small (low_below bits signal low whole low_in))

    split_leads : (place s lo hi : ℕ) → slice_get nodes place ≡ Some (Split s lo hi) → s < signal → EndsIn w nodes signal bits label lo ⊎ EndsIn w nodes signal bits label hi → Leads nodes signal bits label
    split_leads place s lo hi e less ends = go ends
      where
        p : HasPath w nodes place
        p = path_to w nodes r place (slice_get_within nodes place (Split s lo hi) e)

        here : p.sum < 2 ^ s
        here = sum_small w nodes place s lo hi e p

        go : EndsIn w nodes signal bits label lo ⊎ EndsIn w nodes signal bits label hi → Leads nodes signal bits label
        go (inl k) = part_found place s lo hi false p.sum e p less (omega (arith, here, power_next s)) (λ x m. unset_bit x s p.sum here m) k
        go (inr k) = part_found place s lo hi true (p.sum + 2 ^ s) e p less (omega (arith, here, power_next s)) (λ x m. set_bit x s p.sum here m) k

    pub part_leads_on : (place : ℕ) → PartEndsIn w nodes signal bits label (slice_get nodes place) → Leads nodes signal bits label
    part_leads_on place = go (slice_get nodes place) refl
      where
        go : (o : Option Branch) → slice_get nodes place ≡ o → PartEndsIn w nodes signal bits label o → Leads nodes signal bits label
        go None e k = absurd k
        go (Some (Leaf l)) e k = absurd k
        go (Some (Split s lo hi)) e k = split_leads place s lo hi e k.0 k.1

    -- the walk of a valuation passes such a part
    passed_from : (low n place : ℕ) → low < 2 ^ signal → signal ≤ w → place < n → top w (slice_get nodes place) < signal → label_at nodes place (bits + low) ≡ label
        → (q : ℕ) × (q < length nodes) × PartEndsIn w nodes signal bits label (slice_get nodes q)
    passed_from low zero place small narrow h t is = absurd (omega (arith, h))
    passed_from low (suc n) place small narrow h t is = go (slice_get nodes place) refl t (λ q a b c. passed_from low n q small narrow (omega arith) b c)
      where
        Found : Type 0
        Found = (q : ℕ) × (q < length nodes) × PartEndsIn w nodes signal bits label (slice_get nodes q)

        go : (o : Option Branch) → slice_get nodes place ≡ o → top w o < signal → ((q : ℕ) → q < place → top w (slice_get nodes q) < signal → label_at nodes q (bits + low) ≡ label → Found) → Found
        go None e t' ih = absurd (omega (arith, narrow, t'))
        go (Some (Leaf l)) e t' ih = absurd (omega (arith, narrow, t'))
        go (Some (Split s lo hi)) e t' ih = side ((bits + low) / 2 ^ s % 2 == 1) refl
          where
            k : IsFork w nodes place s lo hi
            k = fork_at w nodes place s lo hi r.diagram e

            inside : place < length nodes
            inside = slice_get_within nodes place (Split s lo hi) e

            ends : (q : ℕ) → signal ≤ top w (slice_get nodes q) → label_at nodes q (bits + low) ≡ label → EndsIn w nodes signal bits label q
            ends q le f = (le, sym (label_later w nodes r.diagram q signal (bits + low) bits le (same_above bits signal low whole small)) ∙ f)

            this : EndsIn w nodes signal bits label lo ⊎ EndsIn w nodes signal bits label hi → Found
            this x = (place, inside, subst (PartEndsIn w nodes signal bits label) (sym e) (t', x))

            step : (v : Bool) → ((bits + low) / 2 ^ s % 2 == 1) ≡ v → label_at nodes (cond v hi lo) (bits + low) ≡ label
            step v g = sym (label_at-split w nodes r.diagram place s lo hi (bits + low) e ∙ ap (λ q. label_at nodes q (bits + low)) (side_at s lo hi (bits + low) v g)) ∙ is

            side : (v : Bool) → ((bits + low) / 2 ^ s % 2 == 1) ≡ v → Found
            side true g = at (cases_lt (top w (slice_get nodes hi)) signal)
              where
                at : (top w (slice_get nodes hi) < signal) ⊎ (signal ≤ top w (slice_get nodes hi)) → Found
                at (inl l) = ih hi k.high_earlier l (step true g)
                at (inr l) = this (inr (ends hi l (step true g)))
            side false g = at (cases_lt (top w (slice_get nodes lo)) signal)
              where
                at : (top w (slice_get nodes lo) < signal) ⊎ (signal ≤ top w (slice_get nodes lo)) → Found
                at (inl l) = ih lo k.low_earlier l (step false g)
                at (inr l) = this (inl (ends lo l (step false g)))

    -- where no part leads to the label, the last node does so itself
    pub leads_last : signal ≤ w → ((q : ℕ) → q < length nodes → PartEndsIn w nodes signal bits label (slice_get nodes q) → ⊥) → Leads nodes signal bits label → EndsIn w nodes signal bits label (length nodes - 1)
    leads_last narrow none lead = go (cases_lt (top w (slice_get nodes (length nodes - 1))) signal)
      where
        go : (top w (slice_get nodes (length nodes - 1)) < signal) ⊎ (signal ≤ top w (slice_get nodes (length nodes - 1))) → EndsIn w nodes signal bits label (length nodes - 1)
        go (inl l) = (let f = passed_from lead.0 (length nodes) (length nodes - 1) lead.1 narrow (omega (arith, r.some)) l lead.2 in absurd (none f.0 f.1 f.2))
        go (inr l) = (l, sym (label_later w nodes r.diagram (length nodes - 1) signal (bits + lead.0) bits l (same_above bits signal lead.0 whole lead.1)) ∙ lead.2)

    pub last_leads : EndsIn w nodes signal bits label (length nodes - 1) → Leads nodes signal bits label
    last_leads ends = (let e : bits + 0 ≡ bits = omega arith in (0, pow_pos signal, ap (label_of nodes) e ∙ ends.1))

-- the search begins
pub begun_first : (w : ℕ) (nodes : List Branch) (label : ℕ) → Leads nodes w 0 label → IsBegun w nodes label w 0
begun_first w nodes label lead = record {
  narrow = omega arith;
  within = omega arith;
  whole = mod-eq_of_lt (pow_pos w);
  leads = lead;
  none = λ bits lt. absurd (omega (arith, lt));
}

pub never : (w : ℕ) (nodes : List Branch) (label : ℕ) → (Leads nodes w 0 label → ⊥) → IsLeast w nodes label None
never w nodes label none bits lt e = (let k : 0 + bits ≡ bits = omega arith in none (bits, lt, ap (label_of nodes) k ∙ e))

-- a bit stays unset
pub begun_unset : (w : ℕ) (nodes : List Branch) (label s found : ℕ) → IsBegun w nodes label (s + 1) found → Leads nodes s found label → IsBegun w nodes label s found
begun_unset w nodes label s found b lead = record {
  narrow = omega (arith, b.narrow);
  within = omega (arith, b.within, power_next s);
  whole = fewer found s (s + 1) 0 (omega arith) (pow_pos s) b.whole;
  leads = lead;
  none = b.none;
}

-- or it must be set
pub begun_set : (w : ℕ) (nodes : List Branch) (label s found : ℕ) → IsBegun w nodes label (s + 1) found → (Leads nodes s found label → ⊥) → IsBegun w nodes label s (found + 2 ^ s)
begun_set w nodes label s found b not_so = record {
  narrow = omega (arith, b.narrow);
  within = omega (arith, b.within, power_next s);
  whole = aligned;
  leads = higher (cases_lt b.leads.0 (2 ^ s));
  none = λ bits lt. none bits lt (cases_lt bits found);
}
  where
    half : found % 2 ^ s ≡ 0
    half = fewer found s (s + 1) 0 (omega arith) (pow_pos s) b.whole

    aligned : (found + 2 ^ s) % 2 ^ s ≡ 0
    aligned =
        let k : found + 2 ^ s ≡ (found / 2 ^ s + 1) * 2 ^ s + 0 = whole_blocks found s (2 ^ s) half ∙ turn (found / 2 ^ s) (2 ^ s) in
        ap (λ n. n % 2 ^ s) k ∙ mod_low (found / 2 ^ s + 1) s 0 (pow_pos s)
      where
        turn : (q m : ℕ) → q * m + m ≡ (q + 1) * m + 0
        turn q m = omega arith

    higher : (b.leads.0 < 2 ^ s) ⊎ (2 ^ s ≤ b.leads.0) → Leads nodes s (found + 2 ^ s) label
    higher (inl l) = absurd (not_so (b.leads.0, l, b.leads.2))
    higher (inr l) =
        let low_in : b.leads.0 < 2 ^ (s + 1) = b.leads.1 in
        let e : found + 2 ^ s + (b.leads.0 - 2 ^ s) ≡ found + b.leads.0 = omega arith in
        (b.leads.0 - 2 ^ s, omega (arith, power_next s), ap (label_of nodes) e ∙ b.leads.2)

    none : (bits : ℕ) → bits < found + 2 ^ s → (bits < found) ⊎ (found ≤ bits) → label_of nodes bits ≢ label
    none bits lt (inl l) = b.none bits l
    none bits lt (inr l) = λ is. (let e : found + (bits - found) ≡ bits = omega arith in not_so (bits - found, omega arith, ap (label_of nodes) e ∙ is))

-- with one more bit
pub found_or : (s found : ℕ) → found % 2 ^ (s + 1) ≡ 0 → bit_or found (2 ^ s) ≡ found + 2 ^ s
found_or s found e =
    let none : found + 0 ≡ found = omega arith in
    let zero_low : found / 2 ^ (s + 1) * 2 ^ (s + 1) + 0 ≡ found / 2 ^ (s + 1) * 2 ^ (s + 1) = omega arith in
    let blocks : found ≡ found / 2 ^ (s + 1) * 2 ^ (s + 1) = sym none ∙ whole_blocks found (s + 1) 0 e ∙ zero_low in
    ap (λ n. bit_or n (2 ^ s)) blocks ∙ or_shifted (found / 2 ^ (s + 1)) (s + 1) (2 ^ s) (pow_below s (s + 1) (omega arith)) ∙ ap (λ n. n + 2 ^ s) (sym blocks)

-- after the first signal
pub begun_last : (w : ℕ) (nodes : List Branch) (label found : ℕ) → IsBegun w nodes label 0 found → IsLeast w nodes label (Some found)
begun_last w nodes label found b =
    let one : 2 ^ 0 ≡ 1 = refl in
    let low_in : b.leads.0 < 2 ^ 0 = b.leads.1 in
    let e : found ≡ found + b.leads.0 = omega arith in
    (omega (arith, b.within), ap (label_of nodes) e ∙ b.leads.2, b.none)

-- the test of a place
pub ends_then : (w : ℕ) (nodes : List Branch) (signal bits label place first walk : ℕ) → IsRooted w nodes → place < length nodes → signal ≤ first → first ≡ top w (slice_get nodes place) → walk ≡ label_of (take (place + 1) nodes) bits
    → (eqb walk label ≡ true → EndsIn w nodes signal bits label place) × (EndsIn w nodes signal bits label place → eqb walk label ≡ true)
ends_then w nodes signal bits label place first walk r place_in le e f =
    let same : walk ≡ label_at nodes place bits = f ∙ walked w nodes r.diagram place bits place_in in (
      λ h. (omega (arith, le, e), sym same ∙ (Decides-eqb walk label).0 h),
      λ k. (Decides-eqb walk label).1 (same ∙ k.1),
    )

pub ends_else : (w : ℕ) (nodes : List Branch) (signal bits label place first : ℕ) → first < signal → first ≡ top w (slice_get nodes place)
    → (leb signal first ≡ true → EndsIn w nodes signal bits label place) × (EndsIn w nodes signal bits label place → leb signal first ≡ true)
ends_else w nodes signal bits label place first less e = (
  λ h. absurd (not_so h),
  λ k. absurd (omega (arith, less, e, k.0)),
)
  where
    not_so : leb signal first ≡ true → ⊥
    not_so h = grind (arith, nat_tests)

-- one more place
pub none_more : (w : ℕ) (nodes : List Branch) (signal bits label place : ℕ) (found : Bool) → found ≡ false → (PartEndsIn w nodes signal bits label (slice_get nodes place) → found ≡ true)
    → ((q : ℕ) → q < place → PartEndsIn w nodes signal bits label (slice_get nodes q) → ⊥) → (q : ℕ) → q < place + 1 → PartEndsIn w nodes signal bits label (slice_get nodes q) → ⊥
none_more w nodes signal bits label place found e here before q lt k = go (cases_lt q place)
  where
    go : (q < place) ⊎ (place ≤ q) → ⊥
    go (inl l) = before q l k
    go (inr l) =
        let same : q ≡ place = omega arith in
        let so : found ≡ true = here (subst (λ i. PartEndsIn w nodes signal bits label (slice_get nodes i)) same k) in
        absurd (cc)

not_both_values : (b : Bool) → b ≡ false → b ≡ true → ⊥
not_both_values b e f = absurd (cc)

-- the loop's steps, whose signal is one less than its counter
pub step_whole : (w : ℕ) (nodes : List Branch) (label n found : ℕ) → 0 < n → IsBegun w nodes label n found → found % 2 ^ (n - 1) ≡ 0
step_whole w nodes label n found h b = fewer found (n - 1) n 0 (omega arith) (pow_pos (n - 1)) b.whole

step_from : (w : ℕ) (nodes : List Branch) (label n found : ℕ) → 0 < n → IsBegun w nodes label n found → IsBegun w nodes label (n - 1 + 1) found
step_from w nodes label n found h b = (let e : n ≡ n - 1 + 1 = omega arith in subst (λ k. IsBegun w nodes label k found) e b)

pub step_unset : (w : ℕ) (nodes : List Branch) (label n found : ℕ) (test : Bool) → 0 < n → IsBegun w nodes label n found → test ≡ true → (test ≡ true → Leads nodes (n - 1) found label) → IsBegun w nodes label (n - 1) found
step_unset w nodes label n found test h b t lead = begun_unset w nodes label (n - 1) found (step_from w nodes label n found h b) (lead t)

pub step_set : (w : ℕ) (nodes : List Branch) (label n found : ℕ) (test : Bool) → w ≤ 64 → 0 < n → IsBegun w nodes label n found → test ≡ false → (Leads nodes (n - 1) found label → test ≡ true)
    → IsBegun w nodes label (n - 1) (bit_or found ((1 * 2 ^ (n - 1)) % 2 ^ 64))
step_set w nodes label n found test narrow h b t lead =
    let less : n - 1 < 64 = omega (arith, b.narrow) in
    let from : IsBegun w nodes label (n - 1 + 1) found = step_from w nodes label n found h b in
    let made : bit_or found ((1 * 2 ^ (n - 1)) % 2 ^ 64) ≡ found + 2 ^ (n - 1) = ap (bit_or found) (one_shl (n - 1) 64 less) ∙ found_or (n - 1) found from.whole in
    subst (IsBegun w nodes label (n - 1)) (sym made) (begun_set w nodes label (n - 1) found from (λ k. not_both_values test t (lead k)))

pub never_found : (w w' : ℕ) (nodes nodes' : List Branch) (label : ℕ) (test : Bool) → w' ≡ w → nodes' ≡ nodes → test ≡ false → (Leads nodes' w' 0 label → test ≡ true) → IsLeast w nodes label None
never_found w w' nodes nodes' label test e f t lead = never w nodes label (λ k. not_both_values test t (lead (subst (λ v. Leads nodes' v 0 label) (sym e) (subst (λ l. Leads l w 0 label) (sym f) k))))
