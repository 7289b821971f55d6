-- `show_lines` is safe, ends, and follows the replay: before each turn the lines written and the lines from here on are those of
-- the replay of the tape; the turn's number is that of its line.
use borrow.Author.Rules.{rules}
use mathlib.Core.Path.{◌∙◌, refl, ap}
use Rattle.std.specs.Prelude.{Ok}
use Rattle.line_bytes.proofs.ShownLaws.{shown_none, played_line_lem, shown_more}
use Rattle.line_bytes.proofs.show_lines.Goals as goal

pub loop-line-init : goal.loop-line-init
loop-line-init g c =
    record { objects = refl; colours = refl; shown = rw c.start-state.ensures (shown_none c.args.tape.now _ (search rules)) }

pub emit-requires : goal.emit-requires
emit-requires g c = played_line_lem _ _ _ _ _ c.play_line.result _ _ c.play_line.ensures (c.in-Ok-Some.is ∙ ap Ok c.in-Ok-Some.field-0-is)

pub loop-line-preserved : goal.loop-line-preserved
loop-line-preserved g c =
    let inv = c.loop-line.invariant in
    record {
      objects = search rules;
      colours = search rules;
      shown =
          shown_more _ _ _ _ _ c.play_line.result _ _ c.play_line.ensures (c.in-Ok-Some.is ∙ ap Ok c.in-Ok-Some.field-0-is)
          _ inv.objects inv.colours inv.shown;
    }
