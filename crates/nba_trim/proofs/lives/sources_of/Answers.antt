use Rattle.std.proofs.Common.{subst}
use Rattle.nba_trim.specs.Search.{AreStateLists, AddsSource}
use Rattle.nba_trim.proofs.Sources.{sources_more}
use Rattle.nba_trim.proofs.lives.sources_of.Goals as goal

pub loop-q-preserved : goal.loop-q-preserved
loop-q-preserved c =
    let a = c.args.a.now in
    let old = c.loop-q.before.items in
    let new = c.add_source.new.before.items in
    let i = c.loop-q.invariant in
    record {
      states = subst (λ n. AreStateLists n new) i.states.each c.in_ok-add_source.ensures.states;
      sources = sources_more a c.loop-q.q old new i.sources (subst (λ edges. AddsSource c.loop-q.q edges old new) c.edges.ensures.value c.in_ok-add_source.ensures.exact);
    }
