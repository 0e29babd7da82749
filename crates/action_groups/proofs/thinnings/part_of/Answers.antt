use Rattle.std.proofs.Common.{◌≡◌, ◌+◌, ◌∙◌, List, map, ap, subst}
use Rattle.std.specs.Prelude.{Vec}
use Rattle.std.specs.List.{All, Contains, filter}
use Rattle.std.specs.declared.alloc.Global.{Global}
use Rattle.std.proofs.lemmas.Result.{IfOk-weaker}
use Rattle.action_groups.specs.declared.ways.Way.{Way}
use Rattle.action_groups.specs.Tests.{allows, signal_of}
use Rattle.action_groups.specs.Thinned.{AllowSame, decided_way}
use Rattle.action_groups.proofs.Settled.{settled_same}
use Rattle.action_groups.proofs.thinnings.part_of.Goals as goal

pub returns-clause-same : goal.returns-clause-same
returns-clause-same c =
    let order = c.args.order in
    let signal = c.signal-signal.result in
    let held : List Way = filter (λ w. allows w.edge.cube (signal_of order c.args.place) c.args.value) c.args.ways.now in
    let part : c.deref.result.now ≡ held = c.deref.ensures.value ∙ c.in_ok-part.ensures.value ∙ ap (λ s. filter (λ w. allows w.edge.cube s c.args.value) c.args.ways.now) c.signal-signal.ensures.value in
    let once : List Way = c.in_ok-once.once.items in
    let within : All (Contains (map (decided_way signal) held)) once = subst (λ (l : List Way). All (Contains (map (decided_way signal) l)) once) part c.in_ok-once.ensures.within in
    let each : All (Contains once) (map (decided_way signal) held) = subst (λ (l : List Way). All (Contains once) (map (decided_way signal) l)) part c.in_ok-once.ensures.each in
    let same : AllowSame order (c.args.place + 1) once held = settled_same order c.args.place signal once held c.requires.place c.signal-signal.ensures.value within each in
    let P : Vec Way Global → Type 0 = λ v. AllowSame order (c.args.place + 1) v.items c.deref-2.result.now in
    let Q : Vec Way Global → Type 0 = λ v. AllowSame order (c.args.place + 1) v.items held in
    IfOk-weaker _ P Q (λ v h bits q p. (
    let less : AllowSame order (c.args.place + 1) v.items once = subst (λ (l : List Way). AllowSame order (c.args.place + 1) v.items l) c.deref-2.ensures.value h in
    less bits q p ∙ same bits q p))
    c.thinned.ensures.same
