-- The errors of lower steps as errors of a game.
use Rattle.ltl_form.specs.declared.normals.FormError.{FormError}
use Rattle.ltl_form.specs.declared.normals.FormError.TheVariants as form
use Rattle.tableau_nba.specs.declared.tableaux.TableauError.{TableauError}
use Rattle.tableau_nba.specs.declared.tableaux.TableauError.TheVariants as tableau
use Rattle.dual_game.specs.declared.errors.GameError.{GameError}
use Rattle.dual_game.specs.declared.errors.GameError.TheVariants.{TooManyFormulas, TooWide, TooManyStates, Memory}

abbrev pub of_form : FormError → GameError
of_form form.TooManyFormulas = TooManyFormulas
of_form form.Memory = Memory

abbrev pub of_tableau : TableauError → GameError
of_tableau tableau.TooWide = TooWide
of_tableau tableau.TooManyStates = TooManyStates
of_tableau tableau.Memory = Memory
