-- The earliest of a list, one element after another.
use Rattle.std.proofs.Common.{◌≡◌, ℕ, ◌+◌, ◌<◌, Bool, true, false, List, [], ◌∷◌, ◌++◌, length, take, get_or, sym, ◌∙◌, ap, cond, Some}
use Rattle.std.specs.List.{filter, reduce}
use Rattle.std.specs.Option.{option_map_or}
use Rattle.std.proofs.lemmas.List.Elements.{filter_more}
use Rattle.std.proofs.lemmas.List.{append-nil}
use Rattle.muck_laws.proofs.Mapped.{reduce_push}
use Rattle.muck_queue.specs.declared.process.Process.{Process}
use Rattle.muck_queue.specs.Queues.{earlier, earliest}

-- the filter of one element more, where the element passes and where it doesn't
filtered : (test : Process → Bool) (ps : List Process) (i : ℕ) (p : Process) (b : Bool) → i < length ps → p ≡ get_or ps i p → test p ≡ b →
    filter test (take (i + 1) ps) ≡ filter test (take i ps) ++ cond b (p ∷ []) []
filtered test ps i p b h e t =
    filter_more test ps i p h ∙ ap (λ q. filter test (take i ps) ++ cond (test q) (q ∷ []) []) (sym e) ∙ ap (λ c. filter test (take i ps) ++ cond c (p ∷ []) []) t

-- one more that passes
pub earliest_more : (test : Process → Bool) (ps : List Process) (i : ℕ) (p : Process) → i < length ps → p ≡ get_or ps i p → test p ≡ true →
    earliest test (take (i + 1) ps) ≡ Some (option_map_or (λ q. earlier q p) (earliest test (take i ps)) p)
earliest_more test ps i p h e t = ap (reduce earlier) (filtered test ps i p true h e t) ∙ reduce_push earlier (filter test (take i ps)) p

-- one more that doesn't pass
pub earliest_same : (test : Process → Bool) (ps : List Process) (i : ℕ) (p : Process) → i < length ps → p ≡ get_or ps i p → test p ≡ false →
    earliest test (take (i + 1) ps) ≡ earliest test (take i ps)
earliest_same test ps i p h e t = ap (reduce earlier) (filtered test ps i p false h e t ∙ append-nil (filter test (take i ps)))
