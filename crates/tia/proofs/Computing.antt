-- Definitions that open together, named once: to say `unfolding chip` is to open all that stands on its line, and so for the others.
use Rattle.laws.specs.Steps.{after, steps_to}
use Rattle.counter.specs.Step.{plain_step, wrap_step}
use Rattle.counter.specs.Count.{value_of, count_of}
use Rattle.counter.specs.Answers.{step_answer, value_answer, count_answer}
use Rattle.tia.specs.Write.{known}
use Rattle.tia.specs.Registers.{registers_after, colours_after}
use Rattle.tia.specs.State.{player_in_range, objects_in_range, playfield_in_range, graphic_in_range, registers_in_range, colours_in_range}
use Rattle.tia.specs.State.{in_range, live_at_rest, bad_state, start_state}
use Rattle.tia.specs.Signed.{signed, mod160}
use Rattle.tia.specs.Object.{size_of, object_moved, object_after, player_after, missile_after, ball_after}
use Rattle.tia.specs.Drawing.{next_drawing, drawing_lit}
use Rattle.tia.specs.Lit.{width_of, missile_lit, ball_lit, lit_of, lit_bits, answer_byte}
use Rattle.tia.specs.Playfield.{playfield_bit, playfield_index, playfield_lit}
use Rattle.tia.specs.Latches.{latches_written, latches_after, read_out}
use Rattle.tia.specs.Colour.{shown_colour, colour_of}
use Rattle.tia.specs.Clock.{objects_after, clock_of}
use Rattle.tia.specs.WriteList.{records_of, record_fault, first_fault, list_fault, write_at}
use Rattle.tia.specs.Line.{clocks_from, line_of}
use Rattle.tia.specs.FirstLit.{shows, first_from, first_lit_of}
use Rattle.tia.specs.Answers.{read_out_answer, line_fault, line_answer, line_buffers}
use Rattle.tia.specs.Run.{accepted_lists, reckon, hmove_clocks, moves_within, allowed}

-- The counter's answers.
unfoldable pub counter : Unit {0}
unfolding after steps_to plain_step wrap_step value_of count_of step_answer value_answer count_answer
counter = tt

-- The state check.
unfoldable pub check : Unit {0}
unfolding player_in_range objects_in_range playfield_in_range graphic_in_range registers_in_range colours_in_range in_range live_at_rest bad_state
check = tt

-- What a clock does to registers and objects (steps 2 and 4 to 7), ..
unfoldable pub object_steps : Unit {0}
unfolding registers_after object_moved object_after player_after missile_after ball_after objects_after clock_of
object_steps = tt

-- .. what is lit then (steps 8 to 10), ..
unfoldable pub lit_steps : Unit {0}
unfolding drawing_lit width_of missile_lit ball_lit playfield_bit playfield_index playfield_lit lit_of lit_bits answer_byte
lit_steps = tt

-- .. and all of it.
unfoldable pub clock : Unit {0}
unfolding object_steps lit_steps signed size_of next_drawing latches_written latches_after colours_after shown_colour colour_of
clock = tt

-- The check of a write list, and the line.
unfoldable pub line : Unit {0}
unfolding clock known records_of record_fault first_fault list_fault write_at clocks_from line_of
line = tt

-- The answers of the chip's calls.
unfoldable pub chip : Unit {0}
unfolding check line start_state line_fault line_answer line_buffers shows first_from first_lit_of read_out read_out_answer
chip = tt

-- A run of lines.
unfoldable pub run : Unit {0}
unfolding chip mod160 accepted_lists reckon hmove_clocks moves_within allowed
run = tt
