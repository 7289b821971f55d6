-- The laws of the chip, in the order of the argument.

-- Definitions that open together, so that no list of them stands twice.
pub mod Computing
-- == One colour clock
-- The known addresses are three ranges, as the code tests them.
pub mod WriteLaws
-- The state check as the code decides it; what a good state shows; the start state is good.
pub mod StateLaws
-- The slot that ends a motion, 8 plus the signed value, is a remainder; a pulse steps the position counter.
pub mod MotionLaws
-- An answer byte shows an object exactly where it has the object's bit.
pub mod LitLaws
-- Which colour is seen in each order of the layers; every colour is even.
pub mod ColourLaws
-- Registers, colours, objects, drawings and timing stay in their ranges, ..
pub mod RangeLaws
-- .. so every clock keeps a good state good.
pub mod GoodLaws
-- == The line call
-- The clocks of a list that passed its check rise, and the write on a clock is found in what is left of it.
pub mod RisingLaws
-- The code's walk along the list gives the write that the definition looks up.
pub mod CursorLaws
-- A line is its 228 clocks: the state and the answer byte of each.
pub mod LineLaws
-- The code's line under way: state, records left and filled columns after each clock.
pub mod ScanlineLaws
-- The answers of clock, read-out and line, by the branches of the code; equal numbers mean equal answers.
pub mod AnswerLaws
pub mod NumberLaws
-- The search for the first lit column finds the smallest; equal numbers mean equal answers.
pub mod FirstLitLaws
-- == Refusals: given exactly when
-- The check of a list gives the number and the index of its first bad record.
pub mod FirstBadLaws
-- Each call's refusals are given exactly when their rows hold, in their order.
pub mod RefusalLaws
-- == Demand 3
-- A line call that meets its promise: what an accepted one and a refused one hand back.
pub mod AcceptLaws
-- One clock acts on an object's timing, motion value and live flag alone, and they make its pulses.
pub mod TrackLaws
-- Clocks at rest, and clocks of a motion, one after another.
pub mod PhaseLaws
-- A line's pulses: 160 without HMOVE, and 152 and the slot that ends the motion with one at clocks 0 to 15.
pub mod MoveLaws
-- The sum by a line's records is the sum by its clocks.
pub mod ReckonLaws
-- The premises, read off a line's records, hold of the write of each clock.
pub mod PremiseLaws
-- Turning by integers modulo 160.
pub mod TurnLaws
-- No run leaves the good states, and each accepted line of a run turns an object by its signed motion value.
pub mod RunLaws
-- What is drawn of an object that has passed position 0: a function of its position.
pub mod DrawLaws
-- A line without writes ends every motion, lets every object pass 0, and shows it by its position.
pub mod QuietLaws
-- Demand 3, from these.
pub mod Demand3Laws
-- == Colours disturb nothing: a clock, a line and a run.
pub mod ApartLaws
-- == A player whose size stays is lit by its age
pub mod SteadyLaws
-- == A reflected player is lit as an unreflected one with the looked-up graphic
pub mod ReflectionLaws
-- == Cases that are proved by running the definitions
pub mod TableProofs
