-- What the two ends of one run did, seen together (RFC 1350, section 2). Steps and histories have the newest first.
use Rattle.std.specs.Prelude.{◌≡◌, ℕ, List, [], ◌∷◌}
use Rattle.tftp_packet.specs.{End, Client, Server}
use Rattle.law_model.specs.Model.{Meaning, Deed, Sent, Took, History, HasSent, MaySend, Step, view_of, IsRun}
use Rattle.law_pair.specs.Merged.{HaveOneOrder}

-- the two histories are what the two ends did in one run
pub record ArePair (m : Meaning) (wire : List ℕ) (client server : History) : Type 0 where
  pub steps : List Step
  pub run : IsRun m wire steps
  pub client_view : view_of Client steps ≡ client
  pub server_view : view_of Server steps ≡ server

-- The network alone: what an end takes the other one has sent before, and all else it may do.
abbrev pub IsOpen : History → Deed → Type 0
IsOpen other (Sent p) = Unit {0}
IsOpen other (Took p) = HasSent other p

-- the two histories can be put into one order in which nothing was taken that had not been sent
abbrev pub AreMerged : History → History → Type 0
AreMerged client server = HaveOneOrder IsOpen client server

-- The machines alone: whatever this end sent, it might send after what it had done before.
abbrev pub MaySendEach : Meaning → List ℕ → End → History → Type 0
MaySendEach m wire e [] = Unit {0}
MaySendEach m wire e (Sent p ∷ h) = MaySend m wire e h p × MaySendEach m wire e h
MaySendEach m wire e (Took p ∷ h) = MaySendEach m wire e h
