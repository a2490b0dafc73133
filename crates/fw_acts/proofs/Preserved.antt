-- What no act breaks.
use Rattle.fw_acts.specs.Acts.{Sig}

-- the world before and after are related whatever is done: by no act, by one act, done whole or stopped, and by one after another
pub record Preserved (S : Sig) (Stays : S.World → S.World → Type 0) : Type 0 where
  pub none : (world : S.World) → Stays world world
  pub both : (old mid new : S.World) → Stays old mid → Stays mid new → Stays old new
  pub act : (act : S.Act) (answer : S.Answer act) (old new : S.World) → S.does act answer old new → Stays old new
  pub stop : (act : S.Act) (stop : S.Stop) (old new : S.World) → S.stops act stop old new → Stays old new
