-- Queues of numbers, as callers see them, and the room in their buffers.
use Rattle.std.specs.Prelude.{◌≡◌, ℕ, ◌+◌, ◌^◌, ◌<◌, ◌≤◌, List, [], length, slice_get, slice_index_or, Some}
use Rattle.std.specs.VecDeque.{deque_len, deque_capacity}
use Rattle.std.specs.declared.collections.VecDeque.{VecDeque}
use Rattle.std.specs.declared.alloc.Global.{Global}

-- the queues, and how many numbers can be added before memory is asked for again
pub record Queues : Type 0 where
  pub queues : List (List ℕ)
  pub spare : ℕ

-- the queue of this number
abbrev pub queue_of : ℕ → List (List ℕ) → List ℕ
queue_of k queues = slice_index_or queues k []

-- the queues are as before, whatever the spare room
abbrev pub HasSameQueues : Queues → Queues → Type 0
HasSameQueues old new = new.queues ≡ old.queues

-- the numbers of a queue
abbrev pub items_of : VecDeque ℕ Global → List ℕ
items_of q = q.items

-- a queue has room for so many more
abbrev pub IsRoomy : ℕ → VecDeque ℕ Global → Type 0
IsRoomy room q = (deque_len q + room ≤ deque_capacity q) × (deque_len q + room < 2 ^ 32)

-- each queue has room for so many more
pub record AreRoomy (room : ℕ) (queues : List (VecDeque ℕ Global)) : Type 0 where
  pub few : length queues < 2 ^ 32
  pub roomy : (k : ℕ) (q : VecDeque ℕ Global) → slice_get queues k ≡ Some q → IsRoomy room q
