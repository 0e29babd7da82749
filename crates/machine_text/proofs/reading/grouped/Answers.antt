use Rattle.std.proofs.Common.{rules, map, arith, ◌≡◌, length, ◌∙◌, ap}
use Rattle.std.proofs.lemmas.List.{length_push}
use Rattle.machine_text.specs.declared.reading.Entry.{Entry}
use Rattle.machine_text.proofs.GroupLaws.{items, ranged_push, map_pushed, spread_more, grouped_at_end, grouped_at_other}
use Rattle.machine_text.proofs.reading.grouped.Goals as goal
use Rattle.machine_text.proofs.reading.grouped.Goals.{then-loop-at-test+else-entries-at, else-loop-at-test}

abbrev blank : Entry
blank = record { state = 0; line = record { when = record { care = 0; want = 0 }; own = 0; next = 0 } }

pub loop-at-preserved : goal.loop-at-preserved
loop-at-preserved c =
    let loop = c.loop-at in
    let below = (c.requires loop.at blank c.loop-at-test.true).0 in
    record {
      within = search rules;
      few = search rules;
      ranged = ranged_push c.args.own c.args.others c.args.count loop.states.items c.push.new.self.items c.in_ok-lines.lines c.in_ok-push.ensures.items loop.invariant.ranged c.in_ok-lines.ensures.ranged;
      all = spread_more c.args.count (length loop.states.items) (length c.push.new.self.items) loop.at c.len-at.result c.args.entries.now (map items loop.states.items) (map items c.push.new.self.items) c.in_ok-lines.lines.items blank loop.invariant.all (let n : c.len.result ≡ length loop.states.items = search rules in omega (arith, below, c.if-entries-at.true, n)) (c.if-entries-at.true ∙ search rules) (c.in_ok-lines.ensures.first blank) (c.in_ok-lines.ensures.rest blank) (map_pushed loop.states.items c.push.new.self.items c.in_ok-lines.lines c.in_ok-push.ensures.items) (ap length c.in_ok-push.ensures.items ∙ length_push loop.states.items c.in_ok-lines.lines) (search rules);
    }

pub returns-clause-grouped : goal.returns-clause-grouped
returns-clause-grouped c =
    let loop = c.loop-at in
    elim c.loop-at-test.branch [
      | then-loop-at-test+else-entries-at w ↦ grouped_at_other c.args.count loop.at w.len.result c.args.entries.now loop.states.items blank loop.invariant.few loop.invariant.all w.loop-at-test.true (search rules) w.if-entries-at.false
      | else-loop-at-test w ↦ grouped_at_end c.args.count loop.at c.args.entries.now loop.states.items loop.invariant.few loop.invariant.all w.loop-at-test.false
    ]
