-- The cases that are proved by running the definitions: document 01's P cases; colours; stretched and reflected players; runs, and pictures, for demand 3.
use mathlib.Core.Path.{◌≡◌, refl}
use mathlib.Core.List.{map}
use Rattle.counter.specs.Answers.{given}
use Rattle.mirror.specs.Mirror.{mirrored}
use Rattle.tia.specs.State.{start_state}
use Rattle.tia.specs.Movable.{P0, M0}
use Rattle.tia.specs.Cases.{Case, pulses_until_rest, extra_pulses, last_line, first_lit, count_blank, answer_to, cases}
use Rattle.tia.specs.ColourCases.{ColourCase, colours_of, colour_cases}
use Rattle.tia.specs.StretchCases.{lit_from, StretchCase, lit_columns, stretch_cases}
use Rattle.tia.specs.ReflectionCases.{reflection_cases}
use Rattle.tia.specs.RunCases.{RunCase, outcome_of, run_cases}
use Rattle.tia.specs.PictureCases.{count_below, picture_outcome, player_at, PictureCase, picture_cases}
use Rattle.tia.proofs.Computing.{counter, chip, run}

-- The P cases of document 01's bench checks.
pub cases_hold : map (λ (c : Case). answer_to c.asked) cases ≡ map (λ (c : Case). given c.claimed) cases
unfolding counter chip pulses_until_rest extra_pulses last_line first_lit count_blank
cases_hold = refl

-- The colours of columns, by each priority.
pub colours_hold : map colours_of colour_cases ≡ map (λ (c : ColourCase). c.claimed) colour_cases
unfolding chip last_line colours_of
colours_hold = refl

-- The columns of stretched players.
pub stretches_hold : map lit_columns stretch_cases ≡ map (λ (c : StretchCase). c.claimed) stretch_cases
unfolding chip last_line lit_from lit_columns
stretches_hold = refl

-- The columns of reflected players.
pub reflections_hold : map lit_columns reflection_cases ≡ map (λ (c : StretchCase). c.claimed) reflection_cases
unfolding chip last_line lit_from lit_columns mirrored
reflections_hold = refl

-- Runs that meet demand 3's premises, and runs that do not.
pub runs_hold : map (λ (c : RunCase). outcome_of M0 start_state c.calls) run_cases ≡ map (λ (c : RunCase). c.outcome) run_cases
unfolding run outcome_of
runs_hold = refl

-- Pictures turned by a run, in all 160 columns.
pub pictures_hold :
    map (λ (c : PictureCase). picture_outcome P0 c.from c.calls) picture_cases ≡ map (λ (c : PictureCase). c.outcome) picture_cases
unfolding run player_at count_below picture_outcome
pictures_hold = refl
