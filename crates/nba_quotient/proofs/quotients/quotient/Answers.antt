use Rattle.std.proofs.Common.{ap, ◌∙◌}
use Rattle.std.specs.Option.{option_map}
use Rattle.word_core.specs.Automaton.{AutomatonData}
use Rattle.nba_quotient.specs.Ways.{class_at}
use Rattle.nba_quotient.proofs.Folded.{folding}
use Rattle.nba_quotient.proofs.Simulated.{no_less, no_more, kept_by}
use Rattle.nba_quotient.proofs.quotients.quotient.Goals as goal

pub returns-clause-folding : goal.returns-clause-folding
returns-clause-folding c = (
  c.in_ok-classes.classes.of.items,
  folding c.args.a.now c.in_ok-classes.classes c.in-Some.quotient c.init.ensures.valid c.in_ok-classes.ensures.classes c.in_ok-classes.ensures.stable (record {
    states = ap (λ (q : AutomatonData). q.states) c.in-Some.ensures ∙ c.in_ok-states.ensures.value;
    init = ap (λ (q : AutomatonData). q.init) c.in-Some.ensures ∙ c.class_of_first-first.ensures.value ∙ ap (option_map (class_at c.in_ok-classes.classes.of.items)) c.init.ensures.value;
  }),
)

pub returns-clause-no_less : goal.returns-clause-no_less
returns-clause-no_less c =
    no_less c.args.a.now c.in_ok-classes.classes c.in-Some.quotient c.init.ensures.valid c.in_ok-classes.ensures.classes c.in_ok-classes.ensures.stable (record {
      states = ap (λ (q : AutomatonData). q.states) c.in-Some.ensures ∙ c.in_ok-states.ensures.value;
      init = ap (λ (q : AutomatonData). q.init) c.in-Some.ensures ∙ c.class_of_first-first.ensures.value ∙ ap (option_map (class_at c.in_ok-classes.classes.of.items)) c.init.ensures.value;
    })

pub returns-clause-no_more : goal.returns-clause-no_more
returns-clause-no_more c =
    no_more c.args.a.now c.in_ok-classes.classes c.in-Some.quotient c.init.ensures.valid c.in_ok-classes.ensures.classes c.in_ok-classes.ensures.stable (record {
      states = ap (λ (q : AutomatonData). q.states) c.in-Some.ensures ∙ c.in_ok-states.ensures.value;
      init = ap (λ (q : AutomatonData). q.init) c.in-Some.ensures ∙ c.class_of_first-first.ensures.value ∙ ap (option_map (class_at c.in_ok-classes.classes.of.items)) c.init.ensures.value;
    })

pub returns-clause-kept : goal.returns-clause-kept
returns-clause-kept c = kept_by c.in-Some.quotient c.args.a.now (returns-clause-no_more c)

pub returns-clause-keeps : goal.returns-clause-keeps
returns-clause-keeps c = kept_by c.args.a.now c.in-Some.quotient (returns-clause-no_less c)
