-- Document 01's printed case and the other cases, proved by running the definitions.
use mathlib.Core.Path.{◌≡◌, refl}
use mathlib.Core.List.{map}
use Rattle.tape.specs.Reading.{bad_version, line_at, place_at, read_at, stretch_at}
use Rattle.tia.proofs.Computing.{chip}
use Rattle.replay.specs.Play.{play_answer}
use Rattle.replay.specs.Replay.{replay_from, replay_of}
use Rattle.listing_text.specs.Text.{digits_of, spaced}
use Rattle.listing_text.specs.LineText.{row_text, latches_text, refused_text}
use Rattle.listing_text.specs.Listing.{rows_text, listing_of}
use Rattle.listing_text.specs.PrintedCase.{printed_tape, printed_listing, ListingCase, listing_cases}

-- Definitions that open together: those of the replay, and with them those of the listing.
unfoldable pub replay : Unit {0}
unfolding chip bad_version line_at place_at read_at stretch_at play_answer replay_from replay_of
replay = tt

unfoldable pub listing : Unit {0}
unfolding replay digits_of spaced row_text latches_text refused_text rows_text listing_of
listing = tt

-- Document 01's printed case.
pub printed_case : listing_of printed_tape ≡ printed_listing
unfolding listing
printed_case = refl

-- Each case's tape has its listing.
pub listings_hold : map (λ (c : ListingCase). listing_of c.tape) listing_cases ≡ map (λ (c : ListingCase). c.listing) listing_cases
unfolding listing
listings_hold = refl
