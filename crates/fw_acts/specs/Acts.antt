-- What a session is made of: acts, the rows of acts that follow one another, and the places where it waits.

-- the acts of a kind of session: what each is answered, what it does to the world with that answer, and for which causes it may stop
pub record Sig : Type 1 where
  pub Act : Type 0
  pub Answer : Act → Type 0
  pub World : Type 0
  pub Stop : Type 0
  pub does : (act : Act) → Answer act → World → World → Type 0
  pub stops : Act → Stop → World → World → Type 0

-- one act that was done whole, with its answer
pub record Step (S : Sig) : Type 0 where
  pub act : S.Act
  pub answer : S.Answer act

-- what is to be done before the session is at a place, or over
pub data Row (S : Sig) (P : Type 0) : Type 0 where
  Do : (act : S.Act) (go : S.Answer act → Row S P) → Row S P
  At : (place : P) → Row S P
  Over : Row S P

-- what is done at each place: an act, and what follows its answer
pub record PlaceTable (S : Sig) (P : Type 0) : Type 0 where
  pub act : P → S.Act
  pub go : (place : P) → S.Answer (act place) → Row S P
