-- Every transmission in the log of a history is one of an accepted command, at a moment since its start; and no lamp is lit while one is on air.
use Prim.Native.Nat.{ℕ, ◌+◌}
use mathlib.Core.Path.{◌≡◌, sym, subst, ◌∙◌}
use mathlib.Core.Bool.{not, ◌&&◌}
use mathlib.Core.List.{List, [], ◌∷◌, ◌++◌}
use mathlib.Core.Option.{none, some}
use native.Mathlib.Omega.{arith}
use lib.Dec.{ltb}
use Rattle.laws.specs.Checks.{between}
use Rattle.laws.proofs.Choice.{by_test, cond_case}
use Rattle.words.specs.Places.{connectors}
use Rattle.meaning.specs.Line.{is}
use Rattle.meaning.specs.Time.{Transmission}
use Rattle.meaning.specs.Lamp.{dark}
use Rattle.meaning.specs.Log.{Deed, now, mode_of, lamp_of, last_of, on_air}
use Rattle.meaning.specs.Table.{Judged, deeds_of, Call, line, overlong, reading, closing, waiting, judge, log_of}
use Rattle.request.specs.Request.{read_request}
use Rattle.theorems.specs.Deeds.{in_lighting}
use Rattle.theorems.proofs.Silent.{lamp_silent}
use Rattle.theorems.proofs.Lamps.{lamp_within, no_lamp}
use Rattle.reads.proofs.Rows.{line_is}
use Rattle.shown.proofs.Known.{Known}
use Rattle.shown.proofs.Shown.{FitFor, fit_after, Fits}
use Rattle.shown.proofs.Fits.{request_fit}
use Rattle.reads.specs.Meant.{meant}
use Rattle.shown.proofs.View.{view, Worded, worded, request_step, now_step}

module _ (log : List Deed) (words : Worded log) (p : ℕ) (fit : FitFor (now log) (last_of p log)) where
  -- it is fit after a judgement
  abbrev FitBy : Judged → Type 0
  FitBy j = FitFor (now (deeds_of j ++ log)) (last_of p (deeds_of j ++ log))

  -- so after a request
  meant_fit : (connection : ℕ) (text : List ℕ) → FitBy (meant log connection text (read_request text))
  meant_fit connection text =
      rw (now_step log connection text (read_request text))
      (subst (λ (x : Known). FitFor (now log) x.sending) (sym (request_step log connection text p words (read_request text)))
      (request_fit (now log) connection text (view log) (read_request text) p fit))

  -- so after any call
  call_fit : (call : Call) → FitBy (judge log call)
  call_fit (line connection room text) =
      cond_case FitBy (ltb 7 connection) _ _ (λ _. fit) λ _.
      cond_case FitBy (ltb room 128) _ _ (λ _. fit) λ _.
      subst FitBy (sym (line_is log connection text)) (meant_fit connection text)
  call_fit (overlong connection room) =
      cond_case FitBy (ltb 7 connection) _ _ (λ _. fit) λ _. cond_case FitBy (ltb room 128) _ _ (λ _. fit) (λ _. fit)
  call_fit (reading port value) =
      cond_case FitBy (not (between 1 connectors port && is "SENSOR" (mode_of port log) && between 0 1 value)) _ _ (λ _. fit) (λ _. fit)
  call_fit (closing connection) = cond_case FitBy (ltb 7 connection) _ _ (λ _. fit) (λ _. fit)
  call_fit (waiting n) =
      cond_case FitBy (ltb 1000000000 n) _ _ (λ _. fit) (λ _. fit_after (now log) (now log + n) (last_of p log) (omega arith) fit)

-- so after any history
pub logged_fit : (h : List Call) (p : ℕ) → FitFor (now (log_of h)) (last_of p (log_of h))
logged_fit [] p = tt
logged_fit (call ∷ h) p = call_fit (log_of h) (worded h) p (logged_fit h p) call

-- a lamp transmits nothing, and where there is none it is dark
unlit : (h : List Call) (p : ℕ) (s : Transmission) → on_air p (log_of h) ≡ some s → lamp_of p (log_of h) ≡ dark
unlit h p s e = by_test (in_lighting p (log_of h)) (λ f. absurd (none_some (sym (lamp_silent h p f) ∙ e))) (λ f. no_lamp h p f)
  where
    none_some : none ≡ some s → ⊥
    none_some e = let z : ◌≡◌ {A = ℕ} 0 1 = cc in omega arith

-- so all that the log shows is fit
pub logged_fits : (h : List Call) (p : ℕ) → Fits (now (log_of h)) (view (log_of h) p)
unfolding on_air
logged_fits h p = record { sends = logged_fit h p; begun = (lamp_within h p).begun; unlit = unlit h p }
