use Rattle.std.proofs.Common.{◌≡◌, ℕ, ◌≤◌, ◌∙◌, List, [], length, get_or, false, map, sym, ap, subst, arith}
use Rattle.std.specs.List.{All, Contains}
use Rattle.std.proofs.lemmas.List.{take_all}
use Rattle.std.proofs.lemmas.List.Elements.{All-nil}
use Rattle.indexmap.specs.IndexSet.{insert_key}
use Rattle.action_groups.specs.declared.ways.Way.{Way}
use Rattle.action_groups.specs.Thinned.{decided_way}
use Rattle.action_groups.specs.Way.{IsWay}
use Rattle.action_groups.proofs.Notes.{same_way, way_decides}
use Rattle.action_groups.proofs.Settled.{inserted_all, inserted_more, mapped_at}
use Rattle.action_groups.proofs.thinnings.settled.Goals as goal

abbrev no_way : Way
no_way = record { from = 0; edge = record { cube = record { care = 0; want = 0 }; next = 0; marked = false } }

pub loop-way-init : goal.loop-way-init
loop-way-init c =
    let ways = map (decided_way c.args.signal) c.args.ways.now in
    let none : c.new-seen.result.keys ≡ [] = c.new-seen.ensures.empty in (
      subst (All (IsWay c.args.count)) (sym none) (All-nil (IsWay c.args.count)),
      subst (All (Contains ways)) (sym none) (All-nil (Contains ways)),
      All-nil (Contains c.new-seen.result.keys),
    )

pub loop-way-preserved : goal.loop-way-preserved
loop-way-preserved c =
    let ways = c.args.ways.now in
    let i : ℕ = c.loop-way.way-index in
    let f : Way → Way = decided_way c.args.signal in
    let way : Way = get_or ways i no_way in
    let keys = c.loop-way.seen.keys in
    let now = c.insert.new.self.keys in
    let inserted : now ≡ insert_key same_way keys (f way) = c.in_ok-insert.ensures.keys ∙ ap (insert_key same_way keys) c.decided.ensures in
    let ranged : IsWay c.args.count way = c.requires.ways i no_way c.loop-way-test.true in (
      inserted_all (IsWay c.args.count) same_way keys now (f way) inserted c.loop-way.invariant.0 ranged,
      inserted_all (Contains (map f ways)) same_way keys now (f way) inserted c.loop-way.invariant.1 (mapped_at f ways i no_way c.loop-way-test.true),
      inserted_more same_way f ways keys now i no_way (λ v w. (way_decides v w).0) c.loop-way-test.true inserted c.loop-way.invariant.2,
    )

pub returns-clause-ways : goal.returns-clause-ways
returns-clause-ways c =
    let same = c.in_ok-to_vec.ensures.items_if_clones_equal (λ x y e. e) ∙ c.as_slice.ensures.keys in
    subst (All (IsWay c.args.count)) (sym same) c.loop-way.invariant.0

pub returns-clause-within : goal.returns-clause-within
returns-clause-within c =
    let same = c.in_ok-to_vec.ensures.items_if_clones_equal (λ x y e. e) ∙ c.as_slice.ensures.keys in
    subst (All (Contains (map (decided_way c.args.signal) c.args.ways.now))) (sym same) c.loop-way.invariant.1

pub returns-clause-each : goal.returns-clause-each
returns-clause-each c =
    let same = c.in_ok-to_vec.ensures.items_if_clones_equal (λ x y e. e) ∙ c.as_slice.ensures.keys in
    let f : Way → Way = decided_way c.args.signal in
    let end : length c.args.ways.now ≤ c.loop-way.way-index = omega arith in
    let all = subst (λ (l : List Way). All (Contains c.loop-way.seen.keys) (map f l)) (take_all c.loop-way.way-index c.args.ways.now end) c.loop-way.invariant.2 in
    subst (λ (l : List Way). All (Contains l) (map f c.args.ways.now)) (sym same) all
