use Rattle.std.proofs.Common.{◌≡◌, ℕ, ◌<◌, ◌+◌, ◌⊎◌, length, map, inl, inr, sym, ap, ◌∙◌, subst, arith}
use Rattle.std.specs.List.{All}
use Rattle.std.proofs.lemmas.List.{get_or_default, length-map, length_push}
use Rattle.nba_quotient.specs.Classes.{known}
use Rattle.nba_quotient.specs.Kinds.{kind_of}
use Rattle.nba_quotient.specs.Ways.{class_at, AreWays, IsNumberOf}
use Rattle.nba_quotient.proofs.Splits.{IsSplit, split_goes, alike, progress}
use Rattle.nba_quotient.proofs.classes.split.Goals as goal

pub loop-state-preserved : goal.loop-state-preserved
loop-state-preserved c =
    let old = c.args.classes.now.of.items in
    let kinds = map kind_of c.loop-state.kinds.keys in
    let now = map kind_of c.number_of.new.kinds.keys in
    let of = c.loop-state.of.items in
    let ways = c.in_ok-ways.ways.items in
    let size : length of ≡ c.loop-state.state = c.loop-state.invariant.0 in
    let within : length of < length old = omega (arith, size, c.requires.each, c.loop-state-test.true, ap length c.states-state-end.ensures.value) in
    let are : AreWays c.args.a.now old (length of) ways =
    subst (λ q. AreWays c.args.a.now old q ways) (sym size) (subst (λ l. AreWays c.args.a.now l c.loop-state.state ways) c.deref.ensures.value c.in_ok-ways.ensures) in
    let class : c.index.result.now ≡ class_at old (length of) =
    c.index.ensures ∙ get_or_default old c.loop-state.state c.index.result.now 0 (omega (arith, within, size)) ∙ ap (class_at old) (sym size) in
    let number : IsNumberOf kinds now (class_at old (length of), ways) c.in_ok-class.class = subst (λ k. IsNumberOf kinds now (k, ways) c.in_ok-class.class) class c.in_ok-class.ensures in
    let more : length c.push.new.self.items ≡ length of + 1 = ap length c.in_ok-push.ensures.items ∙ length_push of c.in_ok-class.class in (
      omega (arith, size, more),
      subst (IsSplit c.args.a.now old now) (sym c.in_ok-push.ensures.items) (split_goes c.args.a.now old kinds of ways c.loop-state.invariant.1 within c.requires.ordered are now c.in_ok-class.class number),
    )

pub returns-clause-classes : goal.returns-clause-classes
returns-clause-classes c =
    let split = c.loop-state.invariant.1 in
    let leasts = c.in_ok-leasts.leasts.items in
    let own : (s : ℕ) → s < length c.loop-state.of.items → class_at c.loop-state.of.items (class_at leasts (class_at c.loop-state.of.items s)) ≡ class_at c.loop-state.of.items s =
    subst (λ of. (s : ℕ) → s < length of → class_at of (class_at leasts (class_at of s)) ≡ class_at of s) c.deref-2.ensures.value c.in_ok-leasts.ensures.own in
    let kinds : length (map kind_of c.loop-state.kinds.keys) ≡ length c.loop-state.kinds.keys = length-map c.loop-state.kinds.keys kind_of in
    let count : length c.in_ok-leasts.leasts.items ≡ length (map kind_of c.loop-state.kinds.keys) = omega (arith, kinds, c.in_ok-leasts.ensures.count, c.len.ensures.len) in
    let size : length c.loop-state.of.items ≡ length c.args.a.now.states =
    omega (arith, c.loop-state.invariant.0, c.loop-state-test.false, c.loop-state.auto.state-end, ap length c.states-state-end.ensures.value) in
    record {
      small = c.requires.small;
      each = size;
      few = omega (arith, count, split.few, size);
      classes = subst (λ n. All (λ k. k < n) c.loop-state.of.items) (sym count) split.classes;
      leasts = subst (λ n. All (λ q. q < n) c.in_ok-leasts.leasts.items) (ap length c.deref-2.ensures.value ∙ size) c.in_ok-leasts.ensures.states;
      own = λ s l. own s (omega (arith, size, l));
      ordered = split.ordered;
      counted = split.counted ∙ sym count;
    }

pub returns-clause-alike : goal.returns-clause-alike
returns-clause-alike c =
    let split = c.loop-state.invariant.1 in
    let size : length c.loop-state.of.items ≡ length c.args.a.now.states =
    omega (arith, c.loop-state.invariant.0, c.loop-state-test.false, c.loop-state.auto.state-end, ap length c.states-state-end.ensures.value) in
    let whole : length c.loop-state.of.items ≡ length c.args.classes.now.of.items = size ∙ sym c.requires.each in
    λ s t ls lt e. alike c.args.a.now c.args.classes.now.of.items (map kind_of c.loop-state.kinds.keys) c.loop-state.of.items split whole s t (omega (arith, size, ls)) (omega (arith, size, lt)) e

pub returns-clause-more : goal.returns-clause-more
returns-clause-more c =
    let split = c.loop-state.invariant.1 in
    let kinds : length (map kind_of c.loop-state.kinds.keys) ≡ length c.loop-state.kinds.keys = length-map c.loop-state.kinds.keys kind_of in
    let count : length c.in_ok-leasts.leasts.items ≡ length (map kind_of c.loop-state.kinds.keys) = omega (arith, kinds, c.in_ok-leasts.ensures.count, c.len.ensures.len) in
    let size : length c.loop-state.of.items ≡ length c.args.a.now.states =
    omega (arith, c.loop-state.invariant.0, c.loop-state-test.false, c.loop-state.auto.state-end, ap length c.states-state-end.ensures.value) in
    let p = progress c.args.a.now c.args.classes.now.of.items (map kind_of c.loop-state.kinds.keys) c.loop-state.of.items split (size ∙ sym c.requires.each) in
    by p (sym count) c.requires.counted
  where
    by : (c.loop-state.of.items ≡ c.args.classes.now.of.items) ⊎ (known c.args.classes.now.of.items < length (map kind_of c.loop-state.kinds.keys))
        → length (map kind_of c.loop-state.kinds.keys) ≡ length c.in_ok-leasts.leasts.items → known c.args.classes.now.of.items ≡ length c.args.classes.now.leasts.items
        → (c.loop-state.of.items ≡ c.args.classes.now.of.items) ⊎ (length c.args.classes.now.leasts.items < length c.in_ok-leasts.leasts.items)
    by (inl h) e k = inl h
    by (inr h) e k = inr (omega (arith, h, e, k))
