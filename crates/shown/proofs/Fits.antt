-- What is fit stays fit: a request keeps every transmission one of an accepted command, at a moment since its start.
use Prim.Native.Nat.{ℕ}
use mathlib.Core.Path.{◌≡◌, refl}
use mathlib.Core.Bool.{not}
use mathlib.Core.List.{List}
use mathlib.Core.Option.{Option, none, some}
use lib.Dec.{eqb}
use Rattle.laws.proofs.Choice.{cond_case}
use Rattle.words.specs.declared.Pair.{Pair}
use Rattle.words.specs.declared.Fields.{Fields}
use Rattle.request.specs.declared.Ask.{Ask}
use Rattle.request.specs.declared.Ask.TheVariants as ask
use Rattle.request.specs.declared.Request.{Request}
use Rattle.request.specs.declared.Request.TheVariants as request
use Rattle.request.specs.Mode.{is_lighting, is_silent}
use Rattle.command.specs.Read.{CommandReading, sent, faulty, command_at, Accepts}
use Rattle.command.proofs.Commands.{command_within}
use Rattle.meaning.specs.Time.{Transmission}
use Rattle.meaning.specs.Log.{until}
use Rattle.waveform.proofs.Paced.{fit_started, fit_renewed}
use Rattle.connector.specs.Change.{owns, same_mode}
use Rattle.shown.proofs.Known.{Known, transmits, same_command, commanded, sent_to, asked, known_after, with_mode}
use Rattle.shown.proofs.Shown.{FitFor, fit_on_air}

-- ---- what is asked makes of a connector
module _ (t connection : ℕ) (x : Known) (g : FitFor t x.sending) where
  -- a command, by what is on air
  commanded_fit : (f : Fields) (ps : List Pair) → Accepts f ps → (o : Option Transmission) → FitFor t o
      → FitFor t (commanded t connection x f ps o).sending
  commanded_fit f ps l none q = fit_started f ps t l.fields l.code l.offset
  commanded_fit f ps l (some s) q =
      cond_case (λ (y : Known). FitFor t y.sending) (not (owns x.owner connection)) _ _ (λ e. g)
      (λ e. cond_case (λ (y : Known). FitFor t y.sending) (same_command s f ps) _ _
      (λ e. fit_renewed q) (λ e. fit_started f ps t l.fields l.code l.offset))

  -- a sendir as it was read
  sent_fit : (r : CommandReading) → ((f : Fields) (ps : List Pair) → r ≡ sent f ps → Accepts f ps)
      → FitFor t (sent_to t connection x r).sending
  sent_fit (faulty number found) l = g
  sent_fit (sent f ps) l = commanded_fit f ps (l f ps refl) (until t x.sending) (fit_on_air t x.sending g)

  -- whatever is asked
  asked_fit : (text : List ℕ) (a : Ask) → FitFor t (asked t connection text x a).sending
  asked_fit text (ask.SetMode mode) =
      cond_case (λ (y : Known). FitFor t y.sending) (transmits t x) x (with_mode x mode) (λ e. g)
      (λ e. cond_case (λ (y : Known). FitFor t y.sending) (same_mode x.mode mode) _ _ (λ f. g) (λ f. g))
  asked_fit text ask.GetMode = g
  asked_fit text ask.GetContact = g
  asked_fit text (ask.Send at) =
      cond_case (λ (y : Known). FitFor t y.sending) (is_silent x.mode) _ _ (λ e. g)
      (λ e. sent_fit (command_at text at) (command_within text at))
  asked_fit text ask.Stop =
      cond_case (λ (y : Known). FitFor t y.sending) (is_silent x.mode) _ _ (λ e. g) (λ e. tt)
  asked_fit text (ask.SetLamp target ramp more) =
      let P : Known → Type 0 = λ y. FitFor t y.sending in
      cond_case P (not (is_lighting x.mode)) _ _ (λ e. g) λ e. cond_case P more _ _ (λ f. g) (λ f. g)
  asked_fit text (ask.GetLamp more) = g

-- of all connectors
pub request_fit : (t connection : ℕ) (text : List ℕ) (K : ℕ → Known) (r : Request) (p : ℕ) → FitFor t (K p).sending
    → FitFor t (known_after t connection text K r p).sending
request_fit t connection text K (request.Fault number place) p g = g
request_fit t connection text K (request.Fixed fixed) p g = g
request_fit t connection text K (request.Connector place ask) p g =
    cond_case (λ (y : Known). FitFor t y.sending) (eqb place.port p) _ _
    (λ e. asked_fit t connection (K p) g text ask) (λ e. g)
request_fit t connection text K (request.Relay place turn) p g = g
