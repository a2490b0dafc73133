-- Taking slots apart, one after the other.
use Rattle.std.proofs.Common.{◌≡◌, ℕ, suc, ◌+◌, ◌<◌, ◌≤◌, List, [], ◌∷◌, ◌++◌, length, take, drop, map, refl, sym, ap, subst, ◌∙◌, arith, append_assoc, length-append}
use Rattle.std.proofs.lemmas.List.{map-append, append-nil}
use Rattle.spool_rack.specs.Room.{QueueView}

front_of : (X : Type 0) (x : X) (items : List X) → take 1 items ≡ x ∷ [] → items ≡ x ∷ drop 1 items
front_of X x [] e = absurd cc
front_of X x (y ∷ items) e = let is : y ≡ x = cc in ap (λ (z : X). z ∷ items) is

more_length : (X : Type 0) (x : X) (items : List X) → take 1 items ≡ x ∷ [] → length items ≡ length (drop 1 items) + 1
more_length X x items e =
    let long : length items ≡ suc (length (drop 1 items)) = ap (λ (l : List X). length l) (front_of X x items e) in
    omega (arith, long)

-- what was made of those that are gone, and what is to be made of those that are left
pub record IsMade (X Y Z : Type 0) (f : X → Z) (g : Y → Z) (all left : List X) (old now : QueueView Y) : Type 0 where
  pub space : length left + length now.items ≤ now.room
  pub room : now.room ≡ old.room
  pub same : map g now.items ++ map f left ≡ map g old.items ++ map f all

pub made_first : (X Y Z : Type 0) (f : X → Z) (g : Y → Z) (all : List X) (old : QueueView Y)
    → length all + length old.items ≤ old.room → IsMade X Y Z f g all all old old
made_first X Y Z f g all old space = record { space = space; room = refl; same = refl }

pub made_next : (X Y Z : Type 0) (f : X → Z) (g : Y → Z) (all left : List X) (old now next : QueueView Y) (x : X)
    (y : Y)
    → IsMade X Y Z f g all left old now → take 1 left ≡ x ∷ [] → g y ≡ f x
    → next ≡ record { items = now.items ++ y ∷ []; room = now.room } → IsMade X Y Z f g all (drop 1 left) old next
made_next X Y Z f g all left old now next x y m e is n =
    let len = more_length X x left e in
    let shifted : map g (now.items ++ y ∷ []) ++ map f (drop 1 left) ≡ map g now.items ++ map f left =
    ap (λ (l : List Z). l ++ map f (drop 1 left)) (map-append g now.items (y ∷ []))
    ∙ append_assoc (map g now.items) (g y ∷ []) (map f (drop 1 left))
    ∙ ap (λ (z : Z). map g now.items ++ (z ∷ map f (drop 1 left))) is
    ∙ ap (λ (l : List X). map g now.items ++ map f l) (sym (front_of X x left e)) in
    let there : QueueView Y = record { items = now.items ++ y ∷ []; room = now.room } in
    let made : IsMade X Y Z f g all (drop 1 left) old there = record {
      space = omega (arith, m.space, len, length-append now.items (y ∷ []));
      room = m.room;
      same = shifted ∙ m.same;
    } in
    subst (IsMade X Y Z f g all (drop 1 left) old) (sym n) made

pub made_space : (X Y Z : Type 0) (f : X → Z) (g : Y → Z) (all left : List X) (old now : QueueView Y) (x : X)
    → IsMade X Y Z f g all left old now → take 1 left ≡ x ∷ [] → length now.items < now.room
made_space X Y Z f g all left old now x m e = omega (arith, m.space, more_length X x left e)

pub made_less : (X : Type 0) (x : X) (left : List X) → take 1 left ≡ x ∷ [] → length (drop 1 left) < length left
made_less X x left e = omega (arith, more_length X x left e)

pub made_last : (X Y Z : Type 0) (f : X → Z) (g : Y → Z) (all left : List X) (old now : QueueView Y)
    → IsMade X Y Z f g all left old now → left ≡ [] → map g now.items ≡ map g old.items ++ map f all
made_last X Y Z f g all left old now m e =
    sym (append-nil (map g now.items)) ∙ ap (λ (l : List X). map g now.items ++ map f l) (sym e) ∙ m.same

map_same : (X : Type 0) (items : List X) → map (λ x. x) items ≡ items
map_same X [] = refl
map_same X (x ∷ items) = ap (λ (l : List X). x ∷ l) (map_same X items)

-- all were taken apart
pub all_poured : (X Z : Type 0) (f : X → Z) (all left : List X) (old now : QueueView Z)
    → IsMade X Z Z f (λ z. z) all left old now → left ≡ []
    → now ≡ record { items = old.items ++ map f all; room = old.room }
all_poured X Z f all left old now m e =
    let items : now.items ≡ old.items ++ map f all =
    sym (map_same Z now.items) ∙ made_last X Z Z f (λ z. z) all left old now m e ∙ ap (λ (l : List Z). l ++ map f all) (map_same Z old.items) in
    ap (λ (l : List Z). let q : QueueView Z = record { items = l; room = now.room } in q) items
    ∙ ap (λ (r : ℕ). let q : QueueView Z = record { items = old.items ++ map f all; room = r } in q) m.room
