-- A command as a caller gives it. Document 01: 106 "an address, field, pair or number of pairs given to the writer that breaks
-- the limits".
use Rattle.std.specs.Prelude.{ℕ, ◌%◌, ◌≤◌, ◌<◌, Bool, false, not, List, [], ◌∷◌, length, get_or, ltb, leb, eqb}
use Rattle.laws.specs.Checks.{◌⇒◌, first}
use Rattle.laws.specs.Lists.{all}
use Rattle.words.specs.declared.Fields.{Fields}
use Rattle.words.specs.Pairs.{pairs_of}
use Rattle.words.specs.Places.{connectors}
use Rattle.code.specs.Limits.{legal, most_id, least_freq, most_freq, most_repeat, most_offset, most_counts}
use Rattle.request.specs.declared.Place.{Place}
use Rattle.command.specs.declared.given.Given.{Given}
use Rattle.command.specs.declared.given.Command.{Command}
use Rattle.command.specs.Fields.{capped, fields_of}
use Rattle.command.specs.Read.{CommandReading, sent, faulty}

-- 1 to 260 pairs, each count legal
unfoldable pub counts_within : ℕ → List ℕ → Bool
counts_within freq given = first
    ((ltb (length given) 2 ⇒ false)
    ∷ (ltb most_counts (length given) ⇒ false)
    ∷ (not (eqb (length given % 2) 0) ⇒ false)
    ∷ []) (all (legal freq) given)

-- a place where an infrared connector is
unfoldable pub place_within : Place → Bool
place_within place = first
    ((not (eqb place.m 1) ⇒ false)
    ∷ (ltb place.port 1 ⇒ false)
    ∷ []) (leb place.port connectors)

-- an even offset and 0 are out of range
unfoldable pub given_within : Given → Bool
given_within f = first
    ((ltb most_id f.id ⇒ false)
    ∷ (ltb f.freq least_freq ⇒ false)
    ∷ (ltb most_freq f.freq ⇒ false)
    ∷ (ltb f.repeat 1 ⇒ false)
    ∷ (ltb most_repeat f.repeat ⇒ false)
    ∷ (ltb most_offset f.offset ⇒ false)
    ∷ []) (not (eqb (f.offset % 2) 0))

-- the repeat as it is taken
abbrev pub taken_as : Given → Fields
taken_as f = fields_of f.id f.freq (capped f.repeat) f.offset

-- "The offset is at most twice the number of pairs, less one", which is the number of counts, less one
unfoldable pub command_given : Command → List ℕ → CommandReading
command_given c given = first
    ((not (place_within c.place) ⇒ faulty 106 [])
    ∷ (not (given_within c.fields) ⇒ faulty 106 [])
    ∷ (not (counts_within c.fields.freq given) ⇒ faulty 106 [])
    ∷ (leb (length given) c.fields.offset ⇒ faulty 106 [])
    ∷ []) (sent (taken_as c.fields) (pairs_of given))

-- counts that fit where they are stored
abbrev pub EachFits : List ℕ → Type 0
EachFits given = (i : ℕ) → i < length given → get_or given i 0 ≤ 65535
