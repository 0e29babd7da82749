-- Sums while they are passed on, and the labels behind them.
use Rattle.std.proofs.Common.{Bool, true, false, cond, ◌≡◌, ◌≢◌, append-nil, ℕ, zero, suc, ◌+◌, ◌-◌, ◌*◌, ◌/◌, ◌%◌, ◌^◌, ◌==◌, ◌<◌, ◌≤◌, List, [], ◌++◌, length, get_or, set, replicate, Option, Some, None, refl, sym, ap, ◌∙◌, subst, arith, inl, inr, ◌⊎◌, bit_or}
use Rattle.std.proofs.lemmas.Bool.{cases_eq, cases_lt}
use Rattle.std.proofs.lemmas.Cmp.{ranked}
use Rattle.std.proofs.lemmas.List.Elements.{All-nil, All-cons, All-append, Contains-append_left, Contains-append_right}
use Rattle.std.proofs.lemmas.List.Quantifiers.{all_pairs_push}
use Rattle.std.proofs.lemmas.List.Sorted.{All-permutation, Contains-permutation}
use Rattle.std.proofs.lemmas.Nat.{pow_pos, or_comm, or_shifted, mod_below}
use Rattle.std.proofs.lemmas.Option.{slice_get_within, slice_get-get_or}
use Rattle.std.proofs.Math.ListN.{length-set, length-replicate}
use Rattle.std.proofs.Math.Nat.{pow-le-pow_right, pow-succ', mod-eq_of_lt, mod-le}
use Rattle.std.proofs.Math.Pow.{mod-mod-pow}
use Rattle.std.specs.List.{slice_get, All, AllPairs, Contains}
use Rattle.std.specs.List.Sorted.{IsPermutation, IsSorted}
use Rattle.std.specs.Ordering.{MatchOrdering, nat_cmp, ordering_then, is_lt}
use Rattle.std.specs.declared.cmp.Ordering.{Ordering}
use Rattle.std.specs.declared.cmp.Ordering.TheVariants.{Less, Equal, Greater}
use Rattle.word_core.specs.declared.branches.Branch.{Branch}
use Rattle.word_core.specs.declared.branches.Branch.TheVariants.{Leaf, Split}
use Rattle.word_core.specs.Tree.{label_at, label_of, side}
use Rattle.letter_tree.specs.Diagram.{top, IsFork, IsDiagram, IsRooted, AreDistinct, HasLeaf}
use Rattle.letter_tree.specs.Occurrence.{AreLeasts}
use Rattle.letter_tree.specs.Sums.{HasSum, IsLowered, ArePassed, ArePassing, HasLabelBy, ArePairsOf, label_pair}
use Rattle.letter_tree.proofs.Copies.{slice_get-set_same, slice_get-set_other, Some-same, slice_get-replicate}
use Rattle.letter_tree.proofs.Diagrams.{label_at-leaf, label_at-split}
use Rattle.letter_tree.proofs.Joints.{fork_at}
use Rattle.letter_tree.proofs.LabelPairs.{once_moved}
use Rattle.letter_tree.proofs.Lists.{mod_next}

pub IsLowered-put : (old : List (Option ℕ)) (place sum : ℕ) → place < length old → ((v : ℕ) → slice_get old place ≡ Some (Some v) → sum ≤ v) → IsLowered old place sum (set old place (Some sum))
IsLowered-put old place sum h least = record {
  count = length-set old place (Some sum);
  from = λ i v e. from i v e (cases_eq i place);
  kept = λ i most k. kept i most k (cases_eq i place);
  here = (sum, slice_get-set_same old place (Some sum) h, omega arith);
}
  where
    from : (i v : ℕ) → slice_get (set old place (Some sum)) i ≡ Some (Some v) → (i ≡ place) ⊎ (i ≡ place → ⊥) → ((i ≡ place) × (v ≡ sum)) ⊎ (slice_get old i ≡ Some (Some v))
    from i v e (inl s) =
        let e' : slice_get (set old place (Some sum)) place ≡ Some (Some v) = subst (λ k. slice_get (set old place (Some sum)) k ≡ Some (Some v)) s e in
        inl (s, Some-same (Some-same (sym e' ∙ slice_get-set_same old place (Some sum) h)))
    from i v e (inr ne) = inr (sym (slice_get-set_other old place i (Some sum) ne) ∙ e)

    kept : (i most : ℕ) → HasSum old i most → (i ≡ place) ⊎ (i ≡ place → ⊥) → HasSum (set old place (Some sum)) i most
    kept i most k (inl s) =
        let v : ℕ = k.0 in
        let at : slice_get old place ≡ Some (Some v) = subst (λ j. slice_get old j ≡ Some (Some v)) s k.1 in
        let le : sum ≤ v = least v at in
        let under : v ≤ most = k.2 in
        (sum, ap (slice_get (set old place (Some sum))) s ∙ slice_get-set_same old place (Some sum) h, omega arith)
    kept i most k (inr ne) = (k.0, slice_get-set_other old place i (Some sum) ne ∙ k.1, k.2)

pub IsLowered-same : (old : List (Option ℕ)) (place sum v : ℕ) → slice_get old place ≡ Some (Some v) → v ≤ sum → IsLowered old place sum old
IsLowered-same old place sum v e le = record {
  count = refl;
  from = λ i u k. inr k;
  kept = λ i most k. k;
  here = (v, e, le);
}

-- a sum with the bit of one more signal
pub or_bit : (sum s : ℕ) → sum < 2 ^ s → bit_or sum (2 ^ s) ≡ sum + 2 ^ s
or_bit sum s h =
    let one : 1 * 2 ^ s ≡ 2 ^ s = omega arith in
    let swap : 1 * 2 ^ s + sum ≡ sum + 2 ^ s = omega arith in
    or_comm sum (2 ^ s) ∙ ap (λ n. bit_or n sum) (sym one) ∙ or_shifted 1 s sum h ∙ swap

pub power_next : (s : ℕ) → 2 ^ (s + 1) ≡ 2 * 2 ^ s
power_next s = let e : s + 1 ≡ suc s = omega arith in ap (λ n. 2 ^ n) e ∙ pow-succ' 2 s

pub below_power : (a b n : ℕ) → a ≤ b → n < 2 ^ a → n < 2 ^ b
below_power a b n h k =
    let p : 2 ^ a ≤ 2 ^ b = pow-le-pow_right (omega arith) h in
    omega arith

-- fewer bits of what is given by more
pub fewer : (bits a b v : ℕ) → a ≤ b → v < 2 ^ a → bits % 2 ^ b ≡ v → bits % 2 ^ a ≡ v
fewer bits a b v le small e =
    let more : b - a + a ≡ b = omega arith in
    sym (mod-mod-pow bits (b - a) a) ∙ ap (λ n. bits % 2 ^ n % 2 ^ a) more ∙ ap (λ n. n % 2 ^ a) e ∙ mod-eq_of_lt small

bit_value : (bits s : ℕ) → (bits / 2 ^ s % 2 ≡ 0) ⊎ (bits / 2 ^ s % 2 ≡ 1)
bit_value bits s = go (cases_eq (bits / 2 ^ s % 2) 0)
  where
    go : (bits / 2 ^ s % 2 ≡ 0) ⊎ (bits / 2 ^ s % 2 ≡ 0 → ⊥) → (bits / 2 ^ s % 2 ≡ 0) ⊎ (bits / 2 ^ s % 2 ≡ 1)
    go (inl e) = inl e
    go (inr n) = (let l : bits / 2 ^ s % 2 < 2 = mod_below (bits / 2 ^ s) 2 (omega arith) in inr (omega arith))

times : (b n : ℕ) → (b ≡ 0) ⊎ (b ≡ 1) → ((b ≡ 0) × (b * n ≡ 0)) ⊎ ((b ≡ 1) × (b * n ≡ n))
times b n (inl e) = (let none : 0 * n ≡ 0 = omega arith in inl (e, ap (λ m. m * n) e ∙ none))
times b n (inr e) = (let one : 1 * n ≡ n = omega arith in inr (e, ap (λ m. m * n) e ∙ one))

low_alone : (a b x sum : ℕ) → a ≡ x + b → x ≡ 0 → a ≡ sum → b ≡ sum
low_alone a b x sum e f g = omega arith

too_low : (a b x p sum : ℕ) → a ≡ x + b → x ≡ p → a ≡ sum → sum < p → ⊥
too_low a b x p sum e f g l = omega arith

too_high : (a b x p sum : ℕ) → a ≡ x + b → x ≡ 0 → a ≡ sum + p → b < p → ⊥
too_high a b x p sum e f g l = omega arith

high_alone : (a b x p sum : ℕ) → a ≡ x + b → x ≡ p → a ≡ sum + p → b ≡ sum
high_alone a b x p sum e f g = omega arith

low_most : (a b x v most : ℕ) → a ≡ x + b → x ≡ 0 → v ≤ b → a ≤ most → v ≤ most
low_most a b x v most e f l m = omega arith

high_most : (a b x p v most : ℕ) → a ≡ x + b → x ≡ p → v ≤ b → a ≤ most → v + p ≤ most
high_most a b x p v most e f l m = omega arith

-- the part of a valuation's bit
pub side_at : (s lo hi bits : ℕ) (b : Bool) → (bits / 2 ^ s % 2 == 1) ≡ b → side s lo hi bits ≡ cond b hi lo
side_at s lo hi bits b e = ap (λ t. cond t hi lo) e

pub unset_bit : (bits s sum : ℕ) → sum < 2 ^ s → bits % 2 ^ (s + 1) ≡ sum → ((bits / 2 ^ s % 2 == 1) ≡ false) × (bits % 2 ^ s ≡ sum)
unset_bit bits s sum small e = go (times (bits / 2 ^ s % 2) (2 ^ s) (bit_value bits s))
  where
    next : bits % 2 ^ (s + 1) ≡ bits / 2 ^ s % 2 * 2 ^ s + bits % 2 ^ s
    next = mod_next bits s

    go : ((bits / 2 ^ s % 2 ≡ 0) × (bits / 2 ^ s % 2 * 2 ^ s ≡ 0)) ⊎ ((bits / 2 ^ s % 2 ≡ 1) × (bits / 2 ^ s % 2 * 2 ^ s ≡ 2 ^ s)) → ((bits / 2 ^ s % 2 == 1) ≡ false) × (bits % 2 ^ s ≡ sum)
    go (inl z) = (ap (λ n. n == 1) z.0, low_alone (bits % 2 ^ (s + 1)) (bits % 2 ^ s) (bits / 2 ^ s % 2 * 2 ^ s) sum next z.1 e)
    go (inr o) = absurd (too_low (bits % 2 ^ (s + 1)) (bits % 2 ^ s) (bits / 2 ^ s % 2 * 2 ^ s) (2 ^ s) sum next o.1 e small)

pub set_bit : (bits s sum : ℕ) → sum < 2 ^ s → bits % 2 ^ (s + 1) ≡ sum + 2 ^ s → ((bits / 2 ^ s % 2 == 1) ≡ true) × (bits % 2 ^ s ≡ sum)
set_bit bits s sum small e = go (times (bits / 2 ^ s % 2) (2 ^ s) (bit_value bits s))
  where
    next : bits % 2 ^ (s + 1) ≡ bits / 2 ^ s % 2 * 2 ^ s + bits % 2 ^ s
    next = mod_next bits s

    less : bits % 2 ^ s < 2 ^ s
    less = mod_below bits (2 ^ s) (pow_pos s)

    go : ((bits / 2 ^ s % 2 ≡ 0) × (bits / 2 ^ s % 2 * 2 ^ s ≡ 0)) ⊎ ((bits / 2 ^ s % 2 ≡ 1) × (bits / 2 ^ s % 2 * 2 ^ s ≡ 2 ^ s)) → ((bits / 2 ^ s % 2 == 1) ≡ true) × (bits % 2 ^ s ≡ sum)
    go (inl z) = absurd (too_high (bits % 2 ^ (s + 1)) (bits % 2 ^ s) (bits / 2 ^ s % 2 * 2 ^ s) (2 ^ s) sum next z.1 e less)
    go (inr o) = (ap (λ n. n == 1) o.0, high_alone (bits % 2 ^ (s + 1)) (bits % 2 ^ s) (bits / 2 ^ s % 2 * 2 ^ s) (2 ^ s) sum next o.1 e)

-- the sums of a split are passed on to its parts
pub passing_split : (w : ℕ) (nodes : List Branch) (place sum s lo hi raised : ℕ) (old mid new : List (Option ℕ)) → IsDiagram w nodes
    → slice_get nodes place ≡ Some (Split s lo hi) → slice_get old place ≡ Some (Some sum)
    → ArePassing w nodes (place + 1) old → raised ≡ bit_or sum (2 ^ s) → IsLowered old lo sum mid → IsLowered mid hi raised new → ArePassing w nodes place new
passing_split w nodes place sum s lo hi raised old mid new d e at p er a b = record {
  count = b.count ∙ a.count ∙ p.count;
  begins = λ last h. both last 0 (p.begins last h);
  passed = λ i s' lo' hi' v h e' k. passed i s' lo' hi' v h e' k (cases_eq i place);
  small = λ i v k. small i v (origin i v k);
  leading = λ i v k. leading i v (origin i v k);
}
  where
    f : IsFork w nodes place s lo hi
    f = fork_at w nodes place s lo hi d e

    here : sum < 2 ^ s
    here = subst (λ o. sum < 2 ^ top w o) e (p.small place sum at)

    with_bit : raised ≡ sum + 2 ^ s
    with_bit = er ∙ or_bit sum s here

    both : (i most : ℕ) → HasSum old i most → HasSum new i most
    both i most k = b.kept i most (a.kept i most k)

    -- where a sum comes from
    origin : (i v : ℕ) → slice_get new i ≡ Some (Some v) → ((i ≡ hi) × (v ≡ sum + 2 ^ s)) ⊎ (((i ≡ lo) × (v ≡ sum)) ⊎ (slice_get old i ≡ Some (Some v)))
    origin i v k = go (b.from i v k)
      where
        go : ((i ≡ hi) × (v ≡ raised)) ⊎ (slice_get mid i ≡ Some (Some v)) → ((i ≡ hi) × (v ≡ sum + 2 ^ s)) ⊎ (((i ≡ lo) × (v ≡ sum)) ⊎ (slice_get old i ≡ Some (Some v)))
        go (inl x) = inl (x.0, x.1 ∙ with_bit)
        go (inr x) = inr (a.from i v x)

    older : (i v : ℕ) → place ≤ i → slice_get new i ≡ Some (Some v) → slice_get old i ≡ Some (Some v)
    older i v h k = go (origin i v k)
      where
        go : ((i ≡ hi) × (v ≡ sum + 2 ^ s)) ⊎ (((i ≡ lo) × (v ≡ sum)) ⊎ (slice_get old i ≡ Some (Some v))) → slice_get old i ≡ Some (Some v)
        go (inl x) = absurd (omega (arith, x.0, f.high_earlier, h))
        go (inr (inl x)) = absurd (omega (arith, x.0, f.low_earlier, h))
        go (inr (inr x)) = x

    passed : (i s' lo' hi' v : ℕ) → place ≤ i → slice_get nodes i ≡ Some (Split s' lo' hi') → slice_get new i ≡ Some (Some v) → (i ≡ place) ⊎ (i ≡ place → ⊥) → HasSum new lo' v × HasSum new hi' (v + 2 ^ s')
    passed i s' lo' hi' v h e' k (inl q) =
        let same : Split s lo hi ≡ Split s' lo' hi' = Some-same (sym e ∙ ap (slice_get nodes) (sym q) ∙ e') in
        let l : lo ≡ lo' = cc in
        let m : hi ≡ hi' = cc in
        let n : s ≡ s' = cc in
        let o : slice_get old place ≡ Some (Some v) = ap (slice_get old) (sym q) ∙ older i v h k in
        let u : sum ≡ v = Some-same (Some-same (sym at ∙ o)) in
        let high : HasSum new hi (sum + 2 ^ s) = subst (HasSum new hi) with_bit b.here in (
          subst (λ j. HasSum new j v) l (subst (HasSum new lo) u (b.kept lo sum a.here)),
          subst (λ j. HasSum new j (v + 2 ^ s')) m (subst (λ j. HasSum new hi (v + 2 ^ j)) n (subst (λ j. HasSum new hi (j + 2 ^ s)) u high)),
        )
    passed i s' lo' hi' v h e' k (inr ne) =
        let parts = p.passed i s' lo' hi' v (omega arith) e' (older i v h k) in
        (both lo' v parts.0, both hi' (v + 2 ^ s') parts.1)

    above_low : s ≤ top w (slice_get nodes lo)
    above_low = omega (arith, f.low_later)

    next_low : s + 1 ≤ top w (slice_get nodes lo)
    next_low = omega (arith, f.low_later)

    next_high : s + 1 ≤ top w (slice_get nodes hi)
    next_high = omega (arith, f.high_later)

    next_small : sum + 2 ^ s < 2 ^ (s + 1)
    next_small = omega (arith, here, power_next s)

    small : (i v : ℕ) → ((i ≡ hi) × (v ≡ sum + 2 ^ s)) ⊎ (((i ≡ lo) × (v ≡ sum)) ⊎ (slice_get old i ≡ Some (Some v))) → v < 2 ^ top w (slice_get nodes i)
    small i v (inl x) =
        below_power (s + 1) (top w (slice_get nodes i)) v (subst (λ j. s + 1 ≤ top w (slice_get nodes j)) (sym x.0) next_high) (subst (λ n. n < 2 ^ (s + 1)) (sym x.1) next_small)
    small i v (inr (inl x)) =
        below_power s (top w (slice_get nodes i)) v (subst (λ j. s ≤ top w (slice_get nodes j)) (sym x.0) above_low) (subst (λ n. n < 2 ^ s) (sym x.1) here)
    small i v (inr (inr x)) = p.small i v x

    through : (bits : ℕ) (t : Bool) → (bits / 2 ^ s % 2 == 1) ≡ t → bits % 2 ^ s ≡ sum → label_of nodes bits ≡ label_at nodes (cond t hi lo) bits
    through bits t g h =
        p.leading place sum at bits (ap (λ o. bits % 2 ^ top w o) e ∙ h)
        ∙ label_at-split w nodes d place s lo hi bits e
        ∙ ap (λ q. label_at nodes q bits) (side_at s lo hi bits t g)

    leading : (i v : ℕ) → ((i ≡ hi) × (v ≡ sum + 2 ^ s)) ⊎ (((i ≡ lo) × (v ≡ sum)) ⊎ (slice_get old i ≡ Some (Some v))) → (bits : ℕ) → bits % 2 ^ top w (slice_get nodes i) ≡ v → label_of nodes bits ≡ label_at nodes i bits
    leading i v (inl x) bits g =
        let g' : bits % 2 ^ top w (slice_get nodes hi) ≡ sum + 2 ^ s = ap (λ j. bits % 2 ^ top w (slice_get nodes j)) (sym x.0) ∙ g ∙ x.1 in
        let k = set_bit bits s sum here (fewer bits (s + 1) (top w (slice_get nodes hi)) (sum + 2 ^ s) next_high next_small g') in
        through bits true k.0 k.1 ∙ ap (λ j. label_at nodes j bits) (sym x.0)
    leading i v (inr (inl x)) bits g =
        let g' : bits % 2 ^ top w (slice_get nodes lo) ≡ sum = ap (λ j. bits % 2 ^ top w (slice_get nodes j)) (sym x.0) ∙ g ∙ x.1 in
        let small' : sum < 2 ^ (s + 1) = below_power s (s + 1) sum (omega arith) here in
        let k = unset_bit bits s sum here (fewer bits (s + 1) (top w (slice_get nodes lo)) sum next_low small' g') in
        through bits false k.0 k.1 ∙ ap (λ j. label_at nodes j bits) (sym x.0)
    leading i v (inr (inr x)) bits g = p.leading i v x bits g

-- a leaf, and a node without a sum, has nothing to pass on
pub passing_leaf : (w : ℕ) (nodes : List Branch) (place l : ℕ) (sums : List (Option ℕ)) → slice_get nodes place ≡ Some (Leaf l)
    → ArePassing w nodes (place + 1) sums → ArePassing w nodes place sums
passing_leaf w nodes place l sums e p = record {
  count = p.count;
  begins = p.begins;
  passed = λ i s lo hi v h e' k. passed i s lo hi v h e' k (cases_eq i place);
  small = p.small;
  leading = p.leading;
}
  where
    passed : (i s lo hi v : ℕ) → place ≤ i → slice_get nodes i ≡ Some (Split s lo hi) → slice_get sums i ≡ Some (Some v) → (i ≡ place) ⊎ (i ≡ place → ⊥) → HasSum sums lo v × HasSum sums hi (v + 2 ^ s)
    passed i s lo hi v h e' k (inl q) =
        let same : Leaf l ≡ Split s lo hi = Some-same (sym e ∙ ap (slice_get nodes) (sym q) ∙ e') in
        absurd (cc)
    passed i s lo hi v h e' k (inr ne) = p.passed i s lo hi v (omega arith) e' k

passing_none : (w : ℕ) (nodes : List Branch) (place : ℕ) (sums : List (Option ℕ)) → slice_get sums place ≡ Some None
    → ArePassing w nodes (place + 1) sums → ArePassing w nodes place sums
passing_none w nodes place sums e p = record {
  count = p.count;
  begins = p.begins;
  passed = λ i s lo hi v h e' k. passed i s lo hi v h e' k (cases_eq i place);
  small = p.small;
  leading = p.leading;
}
  where
    passed : (i s lo hi v : ℕ) → place ≤ i → slice_get nodes i ≡ Some (Split s lo hi) → slice_get sums i ≡ Some (Some v) → (i ≡ place) ⊎ (i ≡ place → ⊥) → HasSum sums lo v × HasSum sums hi (v + 2 ^ s)
    passed i s lo hi v h e' k (inl q) =
        let none : None ≡ Some v = Some-same (sym e ∙ ap (slice_get sums) (sym q) ∙ k) in
        absurd (cc)
    passed i s lo hi v h e' k (inr ne) = p.passed i s lo hi v (omega arith) e' k

abbrev pub no_sum : Option ℕ
no_sum = None

-- at first the last node alone has a sum
passing_first : (w : ℕ) (nodes : List Branch) (n : ℕ) → n ≡ length nodes → 0 < n
    → ArePassing w nodes n (set (replicate n no_sum) (n - 1) (Some 0))
passing_first w nodes n e some = record {
  count = length-set start (n - 1) (Some 0) ∙ length-replicate n no_sum ∙ e;
  begins = λ last h. subst (λ j. HasSum (set start (n - 1) (Some 0)) j 0) (last_is last h) (0, at, omega arith);
  passed = λ i s lo hi v h e' k. absurd (omega (arith, h, e, slice_get_within nodes i (Split s lo hi) e'));
  small = λ i v k. small i v (only i v k (cases_eq i (n - 1)));
  leading = λ i v k bits g. ap (λ j. label_at nodes j bits) (root ∙ sym (only i v k (cases_eq i (n - 1))).0);
}
  where
    start : List (Option ℕ)
    start = replicate n no_sum

    at : slice_get (set start (n - 1) (Some 0)) (n - 1) ≡ Some (Some 0)
    at = slice_get-set_same start (n - 1) (Some 0) (omega (arith, some, length-replicate n no_sum))

    root : length nodes - 1 ≡ n - 1
    root = ap (λ m. m - 1) (sym e)

    last_is : (last : ℕ) → last + 1 ≡ length nodes → n - 1 ≡ last
    last_is last h = omega arith

    none : (i v : ℕ) → slice_get start i ≡ Some (Some v) → i < length start → ⊥
    none i v h l =
        let m : None ≡ Some v = Some-same (sym (slice_get-replicate n no_sum i (omega (arith, l, length-replicate n no_sum))) ∙ h) in
        absurd (cc)

    only : (i v : ℕ) → slice_get (set start (n - 1) (Some 0)) i ≡ Some (Some v) → (i ≡ n - 1) ⊎ (i ≡ n - 1 → ⊥) → (i ≡ n - 1) × (v ≡ 0)
    only i v k (inl q) = (q, Some-same (Some-same (sym (ap (slice_get (set start (n - 1) (Some 0))) (sym q) ∙ k) ∙ at)))
    only i v k (inr ne) =
        let here : slice_get start i ≡ Some (Some v) = sym (slice_get-set_other start (n - 1) i (Some 0) ne) ∙ k in
        absurd (none i v here (slice_get_within start i (Some v) here))

    small : (i v : ℕ) → (i ≡ n - 1) × (v ≡ 0) → v < 2 ^ top w (slice_get nodes i)
    small i v o = omega (arith, o.1, pow_pos (top w (slice_get nodes i)))

-- the loop's steps, whose place is one less than its counter
pub step_none : (w : ℕ) (nodes : List Branch) (n : ℕ) (sums : List (Option ℕ)) → 0 < n → slice_get sums (n - 1) ≡ Some None
    → ArePassing w nodes n sums → ArePassing w nodes (n - 1) sums
step_none w nodes n sums h e p =
    let s : n ≡ n - 1 + 1 = omega arith in
    passing_none w nodes (n - 1) sums e (subst (λ k. ArePassing w nodes k sums) s p)

pub passing_from : (w : ℕ) (nodes : List Branch) (n : ℕ) (sums : List (Option ℕ)) → n ≡ length nodes → 0 < n → sums ≡ replicate n no_sum
    → ArePassing w nodes n (set sums (n - 1) (Some 0))
passing_from w nodes n sums e some f = subst (λ s. ArePassing w nodes n (set s (n - 1) (Some 0))) (sym f) (passing_first w nodes n e some)

-- the walk on a valuation ends at a leaf with a sum that is at most it
leaf_by : (w : ℕ) (nodes : List Branch) (sums : List (Option ℕ)) → IsDiagram w nodes → ArePassed nodes 0 sums → (bits n place : ℕ) → place < n → place < length nodes → HasSum sums place (bits % 2 ^ top w (slice_get nodes place))
    → (q : ℕ) × (slice_get nodes q ≡ Some (Leaf (label_at nodes place bits))) × HasSum sums q bits
leaf_by w nodes sums d p bits zero place h i k = absurd (omega (arith, h))
leaf_by w nodes sums d p bits (suc n) place h i k = go (slice_get nodes place) refl (λ q a b c. leaf_by w nodes sums d p bits n q (omega arith) b c)
  where
    under : (m : ℕ) → bits % m ≤ bits
    under m = mod-le bits m

    go : (o : Option Branch) → slice_get nodes place ≡ o
        → ((q : ℕ) → q < place → q < length nodes → HasSum sums q (bits % 2 ^ top w (slice_get nodes q)) → (r : ℕ) × (slice_get nodes r ≡ Some (Leaf (label_at nodes q bits))) × HasSum sums r bits)
        → (r : ℕ) × (slice_get nodes r ≡ Some (Leaf (label_at nodes place bits))) × HasSum sums r bits
    go None e ih = let g = slice_get-get_or nodes place (Leaf 0) i in absurd (cc)
    go (Some (Leaf l)) e ih =
        let le : k.0 ≤ bits % 2 ^ top w (slice_get nodes place) = k.2 in
        let most : bits % 2 ^ top w (slice_get nodes place) ≤ bits = under (2 ^ top w (slice_get nodes place)) in
        (place, e ∙ ap (λ x. Some (Leaf x)) (sym (label_at-leaf nodes place l bits e)), (k.0, k.1, omega arith))
    go (Some (Split s lo hi)) e ih = part (times (bits / 2 ^ s % 2) (2 ^ s) (bit_value bits s))
      where
        f : IsFork w nodes place s lo hi
        f = fork_at w nodes place s lo hi d e

        parts : HasSum sums lo k.0 × HasSum sums hi (k.0 + 2 ^ s)
        parts = p place s lo hi k.0 (omega arith) e k.1

        le : k.0 ≤ bits % 2 ^ s
        le = subst (λ o. k.0 ≤ bits % 2 ^ top w o) e k.2

        next : bits % 2 ^ (s + 1) ≡ bits / 2 ^ s % 2 * 2 ^ s + bits % 2 ^ s
        next = mod_next bits s

        further : (t : ℕ) → s < t → bits % 2 ^ (s + 1) ≤ bits % 2 ^ t
        further t lt =
            let more : t - (s + 1) + (s + 1) ≡ t = omega arith in
            let same : bits % 2 ^ t % 2 ^ (s + 1) ≡ bits % 2 ^ (s + 1) = ap (λ m. bits % 2 ^ m % 2 ^ (s + 1)) (sym more) ∙ mod-mod-pow bits (t - (s + 1)) (s + 1) in
            let most : bits % 2 ^ t % 2 ^ (s + 1) ≤ bits % 2 ^ t = mod-le (bits % 2 ^ t) (2 ^ (s + 1)) in
            omega arith

        wider : (q v most : ℕ) → v ≤ most → HasSum sums q v → HasSum sums q most
        wider q v most l x = (let m : x.0 ≤ v = x.2 in (x.0, x.1, omega arith))

        walked : (t : Bool) → (bits / 2 ^ s % 2 == 1) ≡ t → label_at nodes (cond t hi lo) bits ≡ label_at nodes place bits
        walked t g = sym (label_at-split w nodes d place s lo hi bits e ∙ ap (λ q. label_at nodes q bits) (side_at s lo hi bits t g))

        part : ((bits / 2 ^ s % 2 ≡ 0) × (bits / 2 ^ s % 2 * 2 ^ s ≡ 0)) ⊎ ((bits / 2 ^ s % 2 ≡ 1) × (bits / 2 ^ s % 2 * 2 ^ s ≡ 2 ^ s))
            → (r : ℕ) × (slice_get nodes r ≡ Some (Leaf (label_at nodes place bits))) × HasSum sums r bits
        part (inl z) =
            let far : bits % 2 ^ (s + 1) ≤ bits % 2 ^ top w (slice_get nodes lo) = further (top w (slice_get nodes lo)) f.low_later in
            let r = ih lo f.low_earlier (omega (arith, f.low_earlier, i)) (wider lo k.0 (bits % 2 ^ top w (slice_get nodes lo)) (low_most (bits % 2 ^ (s + 1)) (bits % 2 ^ s) (bits / 2 ^ s % 2 * 2 ^ s) k.0 (bits % 2 ^ top w (slice_get nodes lo)) next z.1 le far) parts.0) in
            (r.0, r.1 ∙ ap (λ x. Some (Leaf x)) (walked false (ap (λ m. m == 1) z.0)), r.2)
        part (inr o) =
            let far : bits % 2 ^ (s + 1) ≤ bits % 2 ^ top w (slice_get nodes hi) = further (top w (slice_get nodes hi)) f.high_later in
            let r = ih hi f.high_earlier (omega (arith, f.high_earlier, i)) (wider hi (k.0 + 2 ^ s) (bits % 2 ^ top w (slice_get nodes hi)) (high_most (bits % 2 ^ (s + 1)) (bits % 2 ^ s) (bits / 2 ^ s % 2 * 2 ^ s) (2 ^ s) k.0 (bits % 2 ^ top w (slice_get nodes hi)) next o.1 le far) parts.1) in
            (r.0, r.1 ∙ ap (λ x. Some (Leaf x)) (walked true (ap (λ m. m == 1) o.0)), r.2)

-- one more leaf
pub pairs_start : (nodes : List Branch) (sums : List (Option ℕ)) → ArePairsOf nodes sums 0 []
pairs_start nodes sums = record { each = All-nil _; all = λ place label sum lt e k. absurd (omega arith); once = λ i j d lt j_in. absurd (omega (arith, j_in)) }

pub pairs_more : (nodes : List Branch) (sums : List (Option ℕ)) (place : ℕ) (node : Branch) (sum : Option ℕ) (old new : List (ℕ × ℕ)) → AreDistinct nodes → new ≡ old ++ label_pair node sum
    → slice_get nodes place ≡ Some node → slice_get sums place ≡ Some sum → ArePairsOf nodes sums place old → ArePairsOf nodes sums (place + 1) new
pairs_more nodes sums place node sum old new distinct e en es h = record {
  each = subst (All P) (sym e) (All-append P old (label_pair node sum) earlier (own node sum en es));
  once = subst (AllPairs Apart) (sym e) (once node sum en);
  all = λ q label v lt eq ev. subst (λ l. Contains l (v, label)) (sym e) (found q label v lt eq ev (cases_lt q place));
}
  where
    P : ℕ × ℕ → Type 0
    P p = (q : ℕ) × (slice_get nodes q ≡ Some (Leaf p.1)) × (slice_get sums q ≡ Some (Some p.0)) × (q < place + 1)

    Apart : ℕ × ℕ → ℕ × ℕ → Type 0
    Apart p q = p.1 ≢ q.1

    earlier : All P old
    earlier k d lt =
        let f = h.each k d lt in
        let less : f.0 < place = f.3 in
        (f.0, f.1, f.2, omega arith)

    -- an earlier leaf has another label
    other : (label k : ℕ) (d : ℕ × ℕ) → slice_get nodes place ≡ Some (Leaf label) → k < length old → (get_or old k d).1 ≡ label → ⊥
    other label k d a lt same =
        let f = h.each k d lt in
        distinct f.0 place f.3 (slice_get_within nodes place (Leaf label) a) (f.1 ∙ ap (λ l. Some (Leaf l)) same ∙ sym a)

    once : (x : Branch) (o : Option ℕ) → slice_get nodes place ≡ Some x → AllPairs Apart (old ++ label_pair x o)
    once (Split s lo hi) o a = subst (AllPairs Apart) (sym (append-nil old)) h.once
    once (Leaf l) None a = subst (AllPairs Apart) (sym (append-nil old)) h.once
    once (Leaf l) (Some v) a = all_pairs_push Apart old (v, l) h.once (λ k d lt. other l k d a lt)

    own : (x : Branch) (o : Option ℕ) → slice_get nodes place ≡ Some x → slice_get sums place ≡ Some o → All P (label_pair x o)
    own (Split s lo hi) o a b = All-nil P
    own (Leaf l) None a b = All-nil P
    own (Leaf l) (Some v) a b = All-cons P (v, l) [] (place, a, b, omega arith) (All-nil P)

    here : (x : Branch) (o : Option ℕ) (label v : ℕ) → x ≡ Leaf label → o ≡ Some v → Contains (label_pair x o) (v, label)
    here x o label v a b = subst (λ y. Contains (label_pair y o) (v, label)) (sym a) (subst (λ y. Contains (label_pair (Leaf label) y) (v, label)) (sym b) (0, omega arith, refl))

    found : (q label v : ℕ) → q < place + 1 → slice_get nodes q ≡ Some (Leaf label) → slice_get sums q ≡ Some (Some v) → (q < place) ⊎ (place ≤ q) → Contains (old ++ label_pair node sum) (v, label)
    found q label v lt eq ev (inl l) = Contains-append_left old (label_pair node sum) (v, label) (h.all q label v l eq ev)
    found q label v lt eq ev (inr l) =
        let same : q ≡ place = omega arith in
        let a : node ≡ Leaf label = Some-same (sym en ∙ ap (slice_get nodes) (sym same) ∙ eq) in
        let b : sum ≡ Some v = Some-same (sym es ∙ ap (slice_get sums) (sym same) ∙ ev) in
        Contains-append_right old (label_pair node sum) (v, label) (here node sum label v a b)

pub pairs_all : (nodes : List Branch) (sums : List (Option ℕ)) (i : ℕ) (pairs : List (ℕ × ℕ)) → length nodes ≤ i → ArePairsOf nodes sums i pairs → ArePairsOf nodes sums (length nodes) pairs
pairs_all nodes sums i pairs le h = record {
  each = λ k d lt. (let f = h.each k d lt in (f.0, f.1, f.2, slice_get_within nodes f.0 (Leaf (get_or pairs k d).1) f.1));
  all = λ place label sum lt e k. h.all place label sum (omega arith) e k;
  once = h.once;
}

-- in a sorted list the first numbers don't fall
not_later : (p q : ℕ × ℕ) (o : Ordering) → MatchOrdering o (q.0 < p.0) (q.0 ≡ p.0) (p.0 < q.0) → is_lt (ordering_then o (nat_cmp q.1 p.1)) ≡ false → p.0 ≤ q.0
not_later p q Less h e = absurd (cc)
not_later p q Equal h e = omega arith
not_later p q Greater h e = omega arith

sorted_from : (xs : List (ℕ × ℕ)) → IsSorted (λ (x y : ℕ × ℕ). ordering_then (nat_cmp x.0 y.0) (nat_cmp x.1 y.1)) xs → AllPairs (λ p q. p.0 ≤ q.0) xs
sorted_from xs up i j d lt inside = (let e : i + (j - i) ≡ j = omega arith in subst (λ k. (get_or xs i d).0 ≤ (get_or xs k d).0) e (after (j - i) (omega arith)))
  where
    after : (n : ℕ) → i + n < length xs → (get_or xs i d).0 ≤ (get_or xs (i + n) d).0
    after zero l = (let e : i + 0 ≡ i = omega arith in subst (λ k. (get_or xs i d).0 ≤ (get_or xs k d).0) (sym e) (omega arith))
    after (suc n) l =
        let p : ℕ × ℕ = get_or xs (i + n) d in
        let q : ℕ × ℕ = get_or xs (i + n + 1) d in
        let e : i + suc n ≡ i + n + 1 = omega arith in
        let before : (get_or xs i d).0 ≤ p.0 = after n (omega arith) in
        let step : p.0 ≤ q.0 = not_later p q (nat_cmp q.0 p.0) (ranked q.0 p.0 _ refl) (up (i + n) d (omega arith) (omega arith)) in
        subst (λ k. (get_or xs i d).0 ≤ (get_or xs k d).0) (sym e) (omega arith)

-- the pairs in order
pub leasts_exact : (w : ℕ) (nodes : List Branch) (sums : List (Option ℕ)) (pairs sorted : List (ℕ × ℕ)) → IsRooted w nodes → ArePassing w nodes 0 sums → ArePairsOf nodes sums (length nodes) pairs → IsPermutation pairs sorted
    → IsSorted (λ (x y : ℕ × ℕ). ordering_then (nat_cmp x.0 y.0) (nat_cmp x.1 y.1)) sorted → AreLeasts w nodes sorted
leasts_exact w nodes sums pairs sorted r p h moved up = record {
  each = All-permutation Q pairs sorted moved (λ k d lt. exact (get_or pairs k d) (h.each k d lt));
  all = all;
  rising = sorted_from sorted up;
  once = once_moved pairs sorted h.once moved;
}
  where
    Q : ℕ × ℕ → Type 0
    Q x = (x.0 < 2 ^ w) × (label_of nodes x.0 ≡ x.1)

    exact : (x : ℕ × ℕ) → (q : ℕ) × (slice_get nodes q ≡ Some (Leaf x.1)) × (slice_get sums q ≡ Some (Some x.0)) × (q < length nodes) → Q x
    exact x f =
        let small : x.0 < 2 ^ w = subst (λ o. x.0 < 2 ^ top w o) f.1 (p.small f.0 x.0 f.2) in
        let whole : x.0 % 2 ^ top w (slice_get nodes f.0) ≡ x.0 = ap (λ o. x.0 % 2 ^ top w o) f.1 ∙ mod-eq_of_lt small in
        (small, p.leading f.0 x.0 f.2 x.0 whole ∙ label_at-leaf nodes f.0 x.1 x.0 f.1)

    all : (bits : ℕ) → HasLabelBy sorted (label_of nodes bits) bits
    all bits =
        let last : ℕ = length nodes - 1 in
        let root : HasSum sums last 0 = p.begins last (omega (arith, r.some)) in
        let none : root.0 ≤ 0 = root.2 in
        let low : HasSum sums last (bits % 2 ^ top w (slice_get nodes last)) = (root.0, root.1, omega arith) in
        let f = leaf_by w nodes sums r.diagram p.passed bits (length nodes) last (omega (arith, r.some)) (omega (arith, r.some)) low in
        let v : HasSum sums f.0 bits = f.2 in
        ((v.0, label_of nodes bits), Contains-permutation pairs sorted (v.0, label_of nodes bits) moved (h.all f.0 (label_of nodes bits) v.0 (slice_get_within nodes f.0 (Leaf (label_of nodes bits)) f.1) f.1 v.1), refl, v.2)

pub some_label : (w : ℕ) (nodes : List Branch) (pairs : List (ℕ × ℕ)) → AreLeasts w nodes pairs → 0 < length pairs
some_label w nodes pairs h = (let c = (h.all 0).1 in let lt : c.0 < length pairs = c.1 in omega arith)

pub pair_leaves : (nodes : List Branch) (sums : List (Option ℕ)) (upto : ℕ) (pairs : List (ℕ × ℕ)) → ArePairsOf nodes sums upto pairs → All (λ p. HasLeaf nodes p.1) pairs
pair_leaves nodes sums upto pairs h k d lt = (let f = h.each k d lt in (f.0, f.1))
