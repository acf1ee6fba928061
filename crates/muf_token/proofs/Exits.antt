-- What a fault that is handed on says.
use Rattle.std.proofs.Common.{◌≡◌, true, false, List, Option, None, Result, Ok, Err, sym, subst, IsErr}
use Rattle.std.specs.Result.{IsErrAnd}
use Rattle.muck_model.specs.declared.dbref.Dbref.{Dbref}
use Rattle.muf_token.specs.declared.fault.TokenFault.{TokenFault}
use Rattle.muf_token.specs.declared.fault.TokenFault.TheVariants.{Refused, NoMemory}
use Rattle.muf_token.specs.declared.includes.Definition.{Definition}
use Rattle.muf_token.specs.declared.place.Place.{Place}
use Rattle.muf_token.specs.Pieces.{piece_ahead}
use Rattle.muf_token.specs.inner.Places.{IsFront}
use Rattle.muf_token.specs.Directives.{Spot}
use Rattle.muf_token.specs.Source.{SourceState}
use Rattle.muf_token.specs.inner.Readers.{IsRead}
use Rattle.muf_token.proofs.Sources.{words_broken}

fault_read : (lent : Dbref → Option (List Definition)) (s now : SourceState) (spot : Spot) (fault : TokenFault) → IsFront (piece_ahead None spot.line spot.text) (Err fault) → IsRead lent s spot (Err fault) now
fault_read lent s now spot (Refused refusal) h = words_broken lent s spot refusal.line refusal.kind h
fault_read lent s now spot NoMemory h = tt

pub err_read : (lent : Dbref → Option (List Definition)) (s now : SourceState) (spot : Spot) (fault : TokenFault) (r : Result (Option Place) TokenFault)
    → IsFront (piece_ahead None spot.line spot.text) (Err fault) → IsErr r × IsErrAnd r (λ e. e ≡ fault) → IsRead lent s spot r now
err_read lent s now spot fault (Ok place) h k = let wrong : false ≡ true = k.0 in cc
err_read lent s now spot fault (Err e) h k = subst (λ f. IsRead lent s spot (Err f) now) (sym k.1) (fault_read lent s now spot fault h)
