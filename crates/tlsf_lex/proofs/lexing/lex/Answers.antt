use Rattle.std.proofs.Common.{sym, ap, is_ok, subst, ◌+◌}
use Rattle.std.proofs.ResultArms.{chosen}
use Rattle.tlsf_lex.proofs.Scan.{Scanned, Scanned-start, Scanned-skip, Scanned-take, Scanned-bad, bad_place, Scanned-end, Scanned-within, Scanned-ordered}
use Rattle.tlsf_lex.proofs.lexing.lex.Goals as goal

pub loop-at-init : goal.loop-at-init
loop-at-init c = subst (Scanned c.args.text.now 0) (sym c.new-tokens.ensures.items) (Scanned-start c.args.text.now)

pub loop-at-preserved-in-Skip : goal.loop-at-preserved-in-Skip
loop-at-preserved-in-Skip c =
    let e = c.in-Skip.ensures in
    Scanned-skip c.loop-at.invariant c.loop-at-test.true _ c.behind.ensures c.in-Skip.len e.value e.within.0 e.within.1

pub loop-at-preserved : goal.loop-at-preserved
loop-at-preserved c =
    let e = c.in-Take.ensures in
    let pushed = chosen _ _ _ _ c.push.ensures.items (ap is_ok c.in_ok-push-in-Take.was) in
    subst (Scanned c.args.text.now (c.loop-at.at + c.in-Take.len)) (sym pushed)
    (Scanned-take c.loop-at.invariant c.loop-at-test.true _ c.behind.ensures c.in-Take.kin c.in-Take.len e.value e.within.0 e.within.1)

pub returns-in-Bad : goal.returns-in-Bad
returns-in-Bad c =
    let e = c.in-Bad.ensures in
    record {
      value = Scanned-bad c.loop-at.invariant c.loop-at-test.true _ c.behind.ensures c.in-Bad.what c.in-Bad.past e.value;
      within = tt;
      ordered = tt;
      place = bad_place c.loop-at.invariant c.loop-at-test.true _ c.behind.ensures c.in-Bad.past e.within;
    }

pub returns : goal.returns
returns c = record {
  value = Scanned-end c.loop-at.invariant c.loop-at-test.false;
  within = Scanned-within c.loop-at.invariant;
  ordered = Scanned-ordered c.loop-at.invariant;
  place = tt;
}
