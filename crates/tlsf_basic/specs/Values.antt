-- The values of what the grammar joins.
use Rattle.std.specs.Prelude.{false, [], ◌∷◌, ◌++◌, None}
use Rattle.ltl_form.specs.declared.formulas.Ltl.{Ltl}
use Rattle.ltl_form.specs.declared.formulas.Ltl.TheVariants as ltl
use Rattle.tlsf_basic.specs.declared.symbols.Unary.{Unary}
use Rattle.tlsf_basic.specs.declared.symbols.Unary.TheVariants as u
use Rattle.tlsf_basic.specs.declared.symbols.Lone.{Lone}
use Rattle.tlsf_basic.specs.declared.symbols.Lone.TheVariants as o
use Rattle.tlsf_basic.specs.declared.symbols.Section.{Section}
use Rattle.tlsf_basic.specs.declared.symbols.Section.TheVariants as section
use Rattle.tlsf_basic.specs.declared.headings.Items.{Items}
use Rattle.tlsf_basic.specs.declared.mains.Sections.{Sections}
use Rattle.tlsf_basic.specs.declared.mains.Parts.{Parts}

abbrev pub with_unary : Unary → Ltl → Ltl
with_unary u.Not f = ltl.Not f
with_unary u.Next f = ltl.Next f
with_unary u.Finally f = ltl.Finally f
with_unary u.Globally f = ltl.Globally f

abbrev pub with_lone : Lone → Ltl → Ltl → Ltl
with_lone o.Equiv f g = ltl.Equiv f g
with_lone o.Until f g = ltl.Until f g
with_lone o.Release f g = ltl.Release f g
with_lone o.Weak f g = ltl.Weak f g

abbrev pub no_items : Items
no_items = record { title = false; description = false; tags = false; semantics = None; target = None }

-- one more entry at the end of its section
abbrev pub added : Section → Ltl → Sections → Sections
added section.Initially f all = record all { initially = all.initially ++ f ∷ [] }
added section.Preset f all = record all { preset = all.preset ++ f ∷ [] }
added section.Require f all = record all { require = all.require ++ f ∷ [] }
added section.Assert f all = record all { assert = all.assert ++ f ∷ [] }
added section.Assume f all = record all { assume = all.assume ++ f ∷ [] }
added section.Guarantee f all = record all { guarantee = all.guarantee ++ f ∷ [] }

abbrev pub no_sections : Sections
no_sections = record { initially = []; preset = []; require = []; assert = []; assume = []; guarantee = [] }

abbrev pub no_parts : Parts
no_parts = record { inputs = false; outputs = false; sections = no_sections }
