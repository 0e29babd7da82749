use Rattle.std.proofs.Common.{subst}
use Rattle.game_form.specs.Game.{IsGame}
use Rattle.game_core.specs.Commit.{Commits}
use Rattle.game_core.proofs.Runs.{covers_after, falls, lead_fresh, lead_replaced, marks_after}
use Rattle.game_core.proofs.rounds.take_in.Goals as goal

pub returns-in-Replaced-clause-covers : goal.returns-in-Replaced-clause-covers
returns-in-Replaced-clause-covers c =
    covers_after c.args.b.now c.args.o c.commit.new.self (subst IsGame c.game.ensures c.known-2.ensures) c.known.ensures c.requires.next
    (subst (Commits c.args.b.now c.args.o c.commit.new.self) c.in-Replaced.is c.in_ok-commit.ensures)

pub returns-in-Replaced-clause-falls : goal.returns-in-Replaced-clause-falls
returns-in-Replaced-clause-falls c = λ _.
    falls c.args.b.now c.args.o c.commit.new.self (subst IsGame c.game.ensures c.known-2.ensures) c.known.ensures c.requires.next
    (subst (Commits c.args.b.now c.args.o c.commit.new.self) c.in-Replaced.is c.in_ok-commit.ensures)

pub returns-in-Replaced-clause-journal : goal.returns-in-Replaced-clause-journal
returns-in-Replaced-clause-journal c = λ keep.
    lead_replaced c.args.b.now c.args.o c.commit.new.self (subst IsGame c.game.ensures c.known-2.ensures) c.known.ensures c.requires.next c.args.whole c.args.steps.now.items c.note.new.steps.items
    c.requires.goes_on (c.in_ok-note.ensures keep) (subst (Commits c.args.b.now c.args.o c.commit.new.self) c.in-Replaced.is c.in_ok-commit.ensures)

pub returns-in-Fresh-clause-marked : goal.returns-in-Fresh-clause-marked
returns-in-Fresh-clause-marked c = λ _.
    marks_after c.args.b.now c.args.o c.commit.new.self (subst IsGame c.game.ensures c.known-2.ensures) c.known.ensures c.requires.next
    (subst (Commits c.args.b.now c.args.o c.commit.new.self) c.in-Fresh.is c.in_ok-commit.ensures)

pub returns-in-Fresh-clause-journal : goal.returns-in-Fresh-clause-journal
returns-in-Fresh-clause-journal c = λ keep.
    lead_fresh c.args.b.now c.args.o c.commit.new.self (subst IsGame c.game.ensures c.known-2.ensures) c.known.ensures c.requires.next c.args.whole c.args.steps.now.items c.note.new.steps.items
    c.requires.goes_on (c.in_ok-note.ensures keep) (subst (Commits c.args.b.now c.args.o c.commit.new.self) c.in-Fresh.is c.in_ok-commit.ensures)
