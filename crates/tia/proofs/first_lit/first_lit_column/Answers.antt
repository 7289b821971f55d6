-- `first_lit_column` meets its contract.
use mathlib.Core.Path.{◌≡◌, ◌∙◌, ap}
use native.Mathlib.Omega.{arith}
use borrow.Author.Rules.{rules}
use Rattle.std.specs.Prelude.{Ok}
use Rattle.std.proofs.lemmas.Iterator.{YieldsList-from_slice}
use Rattle.std.proofs.lemmas.Iterator.Search.{position_from_yields_List}
use Rattle.tia.specs.FirstLit.{shows, column_answer}
use Rattle.tia.proofs.FirstLitLaws.{position_is_first}
use Rattle.tia.proofs.first_lit.first_lit_column.Goals as goal

pub returns : goal.returns
returns c =
    let found = position_from_yields_List (shows c.args.object) _ _ _ c.position-found.ensures.ran (YieldsList-from_slice c.args.buffer.now cc) (λ x b q called. search rules) in
    let first = position_is_first c.args.buffer.now c.args.object _ c.if-buffer-ne-LINE_BYTES.false (omega arith) found in
    let same : c.map.result ≡ c.position-found.result = search rules in
    ap column_answer (ap Ok same ∙ first)
