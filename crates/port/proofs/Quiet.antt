-- A closing, a reading and a wait have no reply: they are refused or taken. And what their calls return, with the frames of it, is what they make.
use Prim.Native.Nat.{ℕ, ◌-◌, ◌≤◌}
use mathlib.Core.Path.{◌≡◌, refl, sym, ap, subst}
use mathlib.Core.Bool.{not}
use mathlib.Core.List.{List, [], ◌++◌}
use native.Mathlib.Omega.{arith}
use lib.Dec.{ltb}
use lib.ListN.{length}
use Rattle.laws.specs.Put.{Put}
use Rattle.laws.proofs.Choice.{cond_case}
use Rattle.words.specs.Places.{connectors}
use Rattle.request.specs.Mode.{is_sensor}
use Rattle.connector.specs.declared.Answer.{Answer}
use Rattle.connector.specs.declared.Answer.TheVariants as answer
use Rattle.connector.specs.declared.Connector.{Connector}
use Rattle.connector.specs.declared.Stepped.{Stepped}
use Rattle.connector.specs.Reading.{reading_step}
use Rattle.hub.specs.declared.Decided.{Decided}
use Rattle.hub.specs.declared.Waited.{Waited}
use Rattle.hub.specs.Record.{connector_at}
use Rattle.hub.specs.Line.{bytes_of}
use Rattle.hub.specs.Calls as hub
use Rattle.hub.specs.Wait as wait
use Rattle.server.specs.declared.Server.{Server}
use Rattle.server.specs.declared.Served.{Served}
use Rattle.server.specs.declared.WaitServed.{WaitServed}
use Rattle.server.specs.Calls.{closed_call, reading_call, wait_call}
use Rattle.output.specs.Output.{answer_frames, wait_frames}
use Rattle.port.specs.Event.{closed_of, reading_of, wait_of, Does}

abbrev Quiet : Answer → Type 0
Quiet (answer.Refused number) = Unit
Quiet answer.Taken = Unit
Quiet (answer.Reply r also) = ⊥

quiet_bytes : (a : Answer) → Quiet a → bytes_of a ≡ []
quiet_bytes (answer.Refused number) q = refl
quiet_bytes answer.Taken q = refl
quiet_bytes (answer.Reply r also) q = absurd q

-- a refusal at most
quiet_brief : (connection : ℕ) (a : Answer) → Quiet a → length (answer_frames connection a) ≤ 6
unfolding answer_frames
quiet_brief connection (answer.Refused number) q = omega arith
quiet_brief connection answer.Taken q = omega arith
quiet_brief connection (answer.Reply r also) q = absurd q

closed_quiet : (s : Server) (connection : ℕ) → Quiet (closed_call s connection).answer
unfolding closed_call hub.closed_call
closed_quiet s connection =
    cond_case (λ (x : Served). Quiet x.answer) (ltb 7 connection) _ _ (λ _. tt) (λ f. rw f tt)

reading_step_quiet : (c : Connector) (value : ℕ) → Quiet (reading_step c value).answer
unfolding reading_step
reading_step_quiet c value =
    cond_case (λ (x : Stepped). Quiet x.answer) (not (is_sensor c.mode)) _ _ (λ _. tt) λ _.
    cond_case (λ (x : Stepped). Quiet x.answer) (ltb 1 value) _ _ (λ _. tt) (λ _. tt)

reading_quiet : (s : Server) (port value : ℕ) → Quiet (reading_call s port value).answer
unfolding hub.reading_call
reading_quiet s port value =
    cond_case (λ (x : Decided). Quiet x.answer) (ltb port 1) _ _ (λ _. tt) λ _.
    cond_case (λ (x : Decided). Quiet x.answer) (ltb connectors port) _ _ (λ _. tt) λ _.
    reading_step_quiet (connector_at s.hub (port - 1)) value

wait_quiet : (s : Server) (n : ℕ) → Quiet (wait_call s n).answer
unfolding wait.wait_call
wait_quiet s n = cond_case (λ (x : Waited). Quiet x.answer) (ltb 1000000000 n) _ _ (λ _. tt) (λ _. tt)

-- ---- what is handed to the frames of an answer, and how long they are
pub closed_bytes : (s : Server) (connection : ℕ) {x : Served} → x ≡ closed_call s connection → [] ≡ bytes_of x.answer
closed_bytes s connection e = rw e (sym (quiet_bytes (closed_call s connection).answer (closed_quiet s connection)))

pub reading_bytes : (s : Server) (port value : ℕ) {x : Served} → x ≡ reading_call s port value → [] ≡ bytes_of x.answer
reading_bytes s port value e = rw e (sym (quiet_bytes (reading_call s port value).answer (reading_quiet s port value)))

pub wait_bytes : (s : Server) (n : ℕ) {x : WaitServed} → x ≡ wait_call s n → [] ≡ bytes_of x.answer
wait_bytes s n e = rw e (sym (quiet_bytes (wait_call s n).answer (wait_quiet s n)))

pub wait_brief : (s : Server) (n connection : ℕ) {x : WaitServed} → x ≡ wait_call s n → length (answer_frames connection x.answer) ≤ 6
wait_brief s n connection e = rw e (quiet_brief connection (wait_call s n).answer (wait_quiet s n))

-- ---- what they make
module _ {before out : List ℕ} {at end : ℕ} where
  pub closed_does : (s : Server) (connection : ℕ) {x : Served} → x ≡ closed_call s connection
      → Put before at (answer_frames connection x.answer) out end
      → Does (closed_of s connection) before at end x.server out
  closed_does s connection e p = record { server = ap (λ (y : Served). y.server) e; put = subst (λ (y : Served). Put before at (answer_frames connection y.answer) out end) e p }

  pub reading_does : (s : Server) (port value : ℕ) {x : Served} → x ≡ reading_call s port value
      → Put before at (answer_frames port x.answer) out end
      → Does (reading_of s port value) before at end x.server out
  reading_does s port value e p = record { server = ap (λ (y : Served). y.server) e; put = subst (λ (y : Served). Put before at (answer_frames port y.answer) out end) e p }

  pub wait_does : (s : Server) (connection n : ℕ) {x : WaitServed} → x ≡ wait_call s n
      → Put before at (answer_frames connection x.answer ++ wait_frames x.completions) out end
      → Does (wait_of s connection n) before at end x.server out
  wait_does s connection n e p =
      record {
        server = ap (λ (y : WaitServed). y.server) e;
        put = subst (λ (y : WaitServed). Put before at (answer_frames connection y.answer ++ wait_frames y.completions) out end) e p;
      }
  -- the frame of what a question returned
