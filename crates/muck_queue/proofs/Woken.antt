-- A process that is woken keeps its number and its connection.
use Rattle.std.proofs.Common.{◌≡◌, ℕ, List, [], ◌∷◌, refl}
use Rattle.muf_model.specs.Datum.{Datum}
use Rattle.muck_queue.specs.declared.mode.Wait.{Wait}
use Rattle.muck_queue.specs.declared.mode.Wait.TheVariants.{Nothing, ForLine, ForEvent}
use Rattle.muck_queue.specs.declared.process.Process.{Process}
use Rattle.muck_queue.specs.Queues.{given_event, woken}

given_number : (wait : Wait) (events : List (List ℕ × Datum)) (p : Process) → (given_event wait events p).number ≡ p.number
given_number Nothing events p = refl
given_number ForLine events p = refl
given_number ForEvent [] p = refl
given_number ForEvent (e ∷ events) p = refl

pub woken_number : (moment : ℕ) (p : Process) → (woken moment p).number ≡ p.number
woken_number moment p = given_number p.wait p.events (record p { due = moment; section = 0 })

given_due : (wait : Wait) (events : List (List ℕ × Datum)) (p : Process) → (given_event wait events p).due ≡ p.due
given_due Nothing events p = refl
given_due ForLine events p = refl
given_due ForEvent [] p = refl
given_due ForEvent (e ∷ events) p = refl

-- it is due at that second
pub woken_due : (moment : ℕ) (p : Process) → (woken moment p).due ≡ moment
woken_due moment p = given_due p.wait p.events (record p { due = moment; section = 0 })

given_descr : (wait : Wait) (events : List (List ℕ × Datum)) (p : Process) → (given_event wait events p).descr ≡ p.descr
given_descr Nothing events p = refl
given_descr ForLine events p = refl
given_descr ForEvent [] p = refl
given_descr ForEvent (e ∷ events) p = refl

-- and has the connection that it had
pub woken_descr : (moment : ℕ) (p : Process) → (woken moment p).descr ≡ p.descr
woken_descr moment p = given_descr p.wait p.events (record p { due = moment; section = 0 })
