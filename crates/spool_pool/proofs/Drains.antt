-- Emptying a queue, slot after slot.
use Rattle.std.proofs.Common.{◌≡◌, ℕ, ◌+◌, ◌<◌, ◌≤◌, List, [], ◌∷◌, ◌++◌, length, refl, ap, sym, subst, ◌∙◌, arith, length-append}
use Rattle.std.proofs.lemmas.List.{append_assoc}
use Rattle.std.proofs.lemmas.List.Sorted.{IsPermutation-trans, length_permutation, IsPermutation-append_comm}
use Rattle.spool_rack.specs.Store.{Queues}
use Rattle.spool_rack.specs.Stock.{StockView, count_of}
use Rattle.shared_queue.specs.Moves.{Moves, HasAll, StandIn, taken_out}
use Rattle.spool_pool.specs.Closing.{Drains, with_all}

module _ {T : Type 0} (homed : T → Queues → Queues) where
  -- what was taken so far, and what is left of the room
  pub record Draining (room left : ℕ) (first m : Moves T) (old stock : StockView) : Type 0 where
    pub slots : List T
    pub rest : length slots + left ≡ room
    pub moves : m ≡ record { home = first.home; parts = first.parts; began = first.began; put = first.put; taken = first.taken ++ slots; misses = first.misses }
    pub is : stock ≡ record { queues = with_all homed slots old.queues; room = old.room }
    pub counted : count_of stock.queues ≡ count_of old.queues + length slots
    pub space : count_of stock.queues + left ≤ stock.room

  snoc : (slots : List T) (slot : T) (q : Queues) → with_all homed (slots ++ slot ∷ []) q ≡ homed slot (with_all homed slots q)
  snoc [] slot q = refl
  snoc (x ∷ slots) slot q = snoc slots slot (homed x q)

  pub drain_first : (room : ℕ) (m : Moves T) (old : StockView) → count_of old.queues + room ≤ old.room → Draining room room m m old old
  drain_first room m old space = record {
    slots = [];
    rest = omega arith;
    moves = λ i. record { home = m.home; parts = m.parts; began = m.began; put = m.put; taken = sym (append-nil' m.taken) i; misses = m.misses };
    is = refl;
    counted = omega arith;
    space = space;
  }
    where
      append-nil' : (l : List T) → l ++ [] ≡ l
      append-nil' [] = refl
      append-nil' (x ∷ l) = ap (λ k. x ∷ k) (append-nil' l)

  pub drain_next : (room left : ℕ) (first m new : Moves T) (old stock more : StockView) (slot : T) → 0 < left → Draining room left first m old stock → new ≡ taken_out slot m
      → more ≡ record { queues = homed slot stock.queues; room = stock.room } → count_of more.queues ≡ count_of stock.queues + 1 → (less : ℕ) → less + 1 ≡ left → Draining room less first new old more
  drain_next room left first m new old stock more slot some_left d takes puts one less e = record {
    slots = d.slots ++ slot ∷ [];
    rest = omega (arith, d.rest, e, length-append d.slots (slot ∷ []));
    moves = takes ∙ ap (taken_out slot) d.moves ∙ (λ i. record { home = first.home; parts = first.parts; began = first.began; put = first.put; taken = append_assoc first.taken d.slots (slot ∷ []) i; misses = first.misses });
    is = puts ∙ ap (λ (s : StockView). let r : StockView = record { queues = homed slot s.queues; room = s.room } in r) d.is ∙ (λ i. record { queues = sym (snoc d.slots slot old.queues) i; room = old.room });
    counted = omega (arith, one, d.counted, length-append d.slots (slot ∷ []));
    space = omega (arith, one, d.space, e, ap (λ (s : StockView). s.room) puts);
  }

  pub drain_space : (room left : ℕ) (first m : Moves T) (old stock : StockView) → Draining room left first m old stock → 0 < left → count_of stock.queues < stock.room
  drain_space room left first m old stock d some_left = omega (arith, d.space, some_left)

  pub drain_home : (room left : ℕ) (first m : Moves T) (old stock : StockView) → Draining room left first m old stock → m.home ≡ first.home
  drain_home room left first m old stock d = ap (λ (k : Moves T). k.home) d.moves

  pub drain_part : (room left : ℕ) (first m : Moves T) (old stock : StockView) → Draining room left first m old stock → 0 < first.parts → 0 < m.parts
  drain_part room left first m old stock d some_part = subst (λ n. 0 < n) (sym (ap (λ (k : Moves T). k.parts) d.moves)) some_part

  pub drain_misses : (room left : ℕ) (first m : Moves T) (old stock : StockView) → Draining room left first m old stock → m.misses ≡ first.misses
  drain_misses room left first m old stock d = ap (λ (k : Moves T). k.misses) d.moves

  -- nothing stands in the queue any more
  pub drain_none : (room left : ℕ) (first m : Moves T) (old stock : StockView) → Draining room left first m old stock → (HasAll m → StandIn m []) → Drains homed room first old stock
  drain_none room left first m old stock d none = record {
    slots = d.slots;
    few = omega (arith, d.rest);
    is = d.is;
    counted = omega (arith, d.counted, d.rest);
    all = λ all. IsPermutation-trans _ _ _ (subst (λ (k : Moves T). HasAll k → StandIn k []) d.moves none all) (IsPermutation-append_comm first.taken d.slots);
  }

  nothing : (l : List T) → length l ≡ 0 → l ≡ []
  nothing [] e = refl
  nothing (x ∷ l) e = absurd (omega (arith, e))

  -- as many were taken as there was room for, and at first no more stood there
  pub drain_full : (room : ℕ) (first m : Moves T) (old stock : StockView) → Draining room 0 first m old stock
      → (HasAll first → (items : List T) × (length items ≤ room) × StandIn first items) → (HasAll m → (items : List T) × (length items ≤ room) × StandIn m items) → Drains homed room first old stock
  drain_full room first m old stock d before after = drain_none room 0 first m old stock d (λ all. none (subst (λ (k : Moves T). HasAll k) d.moves all) (after all))
    where
      none : HasAll first → (items : List T) × (length items ≤ room) × StandIn m items → StandIn m []
      none all s =
          let b = before all in
          let p = length_permutation _ _ b.2 in
          let now = subst (λ (k : Moves T). StandIn k s.0) d.moves s.2 in
          let q = length_permutation _ _ now in
          let e = nothing s.0 (omega (arith, p, q, b.1, d.rest, length-append b.0 first.taken, length-append s.0 (first.taken ++ d.slots), length-append first.taken d.slots)) in
          subst (StandIn m) e s.2
