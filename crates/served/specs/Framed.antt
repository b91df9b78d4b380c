-- What is told, in the frames of docs/PORT-OTHER.md: a reply is a `b` to its connection, a completion an `f` with its moment to its owner, or 255 for
-- nobody, and a refusal a `!` for whoever asked.
use Rattle.std.specs.Prelude.{ℕ, List, [], ◌∷◌, ◌++◌}
use Rattle.std.proofs.Math.Option.{Option, none, some}
use Rattle.frames.specs.Layout.{four_bytes, letter, frame_of}
use Rattle.output.specs.Output.{refusal_frame}
use Rattle.served.specs.Told.{Told, reply, completion, refusal}

abbrev pub addressee : Option ℕ → ℕ
addressee none = 255
addressee (some connection) = connection

abbrev pub framed : ℕ → Told → List ℕ
framed whose (reply connection words) = frame_of (letter "b") connection words
framed whose (completion moment owner words) = frame_of (letter "f") (addressee owner) (four_bytes moment ++ words)
framed whose (refusal n) = refusal_frame whose n

abbrev pub all_framed : ℕ → List Told → List ℕ
all_framed whose [] = []
all_framed whose (x ∷ l) = framed whose x ++ all_framed whose l
