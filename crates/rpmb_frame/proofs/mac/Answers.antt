use Rattle.rpmb_frame.specs.Authentication.{mac_of}
use Rattle.rpmb_frame.proofs.mac.Goals as goal

pub returns : goal.returns
unfolding mac_of
returns c = c.hmac.ensures
