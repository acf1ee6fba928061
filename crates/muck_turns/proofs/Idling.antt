-- Whether there is something to do.
use Rattle.std.proofs.Common.{◌≡◌, ℕ, ℤ, true, false, ◌||◌, List, [], ◌∷◌, Option, Some, None, refl, sym, ap, ◌∙◌, inl, inr}
use Rattle.std.specs.Prelude.{is_some}
use Rattle.std.specs.List.{list_any}
use Rattle.muck_queue.specs.declared.claim.Claim.{Claim}
use Rattle.muck_queue.specs.declared.process.Process.{Process}
use Rattle.muck_queue.specs.Queues.{is_process_due}
use Rattle.muck_queue.specs.inner.Leading.{IsAmong, IsNext, NoneDue}

-- whether a process is due
among_due : (moment : ℕ) (cs : List Claim) (r : Process) (ps : List Process) → IsAmong r ps → is_process_due moment cs r ≡ true → list_any (is_process_due moment cs) ps ≡ true
among_due moment cs r [] h e = absurd h
among_due moment cs r (p ∷ ps) (inl same) e = ap (λ b. b || list_any (is_process_due moment cs) ps) (ap (is_process_due moment cs) (sym same) ∙ e)
among_due moment cs r (p ∷ ps) (inr later) e =
    (elim (is_process_due moment cs p) as (λ b. (b || list_any (is_process_due moment cs) ps) ≡ true) [
      | true ↦ refl
      | false ↦ among_due moment cs r ps later e
    ])

none_due : (moment : ℕ) (cs : List Claim) (ps : List Process) → NoneDue moment cs ps → list_any (is_process_due moment cs) ps ≡ false
none_due moment cs [] h = refl
none_due moment cs (p ∷ ps) h = ap (λ b. b || list_any (is_process_due moment cs) ps) h.0 ∙ none_due moment cs ps h.1

pub any_due : (moment : ℕ) (cs : List Claim) (ps : List Process) (next : Option ℤ) → IsNext moment cs ps next → is_some next ≡ list_any (is_process_due moment cs) ps
any_due moment cs ps None h = sym (none_due moment cs ps h)
any_due moment cs ps (Some pid) h = sym (among_due moment cs h.process ps h.among h.due)
