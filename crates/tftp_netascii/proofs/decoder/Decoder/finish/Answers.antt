use Rattle.std.proofs.Common.{◌≡◌, Bool, true, false, [], ◌∷◌, sym, ◌∙◌, subst}
use Rattle.tftp_netascii.specs.{StandsFor}
use Rattle.tftp_netascii.proofs.DecoderLemmas.{StandsFor-exists, Reads-finished}
use Rattle.tftp_netascii.proofs.decoder.Decoder.finish.Goals as goal

pub returns-in_ok-push-clause-file : goal.returns-in_ok-push-clause-file
returns-in_ok-push-clause-file c =
    let holds : c.args.self.now ≡ true = sym c.self.view_is ∙ c.if-self.true in
    (13 ∷ [], c.in_ok-push.ensures.items, λ fed written stands. Reads-finished true fed written (subst (λ (b : Bool). StandsFor b fed written) holds stands))

pub returns-in_ok-push-clause-as_new : goal.returns-in_ok-push-clause-as_new
returns-in_ok-push-clause-as_new c = StandsFor-exists []

pub returns-else-self-clause-as_new : goal.returns-else-self-clause-as_new
returns-else-self-clause-as_new c =
    let holds : c.args.self.now ≡ false = sym c.self.view_is ∙ c.if-self.false in
    subst (λ (b : Bool). StandsFor b [] []) (sym holds) (StandsFor-exists [])
