-- What a hold means: numbered places, each empty or with one frame, and the most bytes that they hold in all.
use Rattle.std.specs.Prelude.{ℕ, ◌+◌, Bool, false, cond, not, ◌&&◌, List, [], ◌∷◌, ◌++◌, length, drop, is_some, Some, None, Option, nat_le, nat_lt, slice_index_or}

abbrev pub Frame : Type 0
Frame = List ℕ

abbrev pub Cell : Type 0
Cell = Option Frame

-- place k is the k-th cell; there are as many places as cells
abbrev pub Cells : Type 0
Cells = List Cell

-- a place not below the number of places counts as empty
abbrev pub cell_at : Cells → ℕ → Cell
cell_at cs k = slice_index_or cs k None

abbrev pub size : Cell → ℕ
size None = 0
size (Some f) = length f

-- the bytes held, all places together
unfoldable pub bytes_held : Cells → ℕ
bytes_held [] = 0
bytes_held (c ∷ cs) = bytes_held cs + size c

-- a frame has 23 to 1,023 bytes
abbrev pub frame_sized : ℕ → Bool
frame_sized n = nat_le 23 n && nat_le n 1023

-- whether n more bytes may lie at place k; here one limit holds for all places together
abbrev pub room_at : Cells → ℕ → ℕ → ℕ → Bool
room_at cs most k n = nat_le (bytes_held cs + n) most

-- whether a frame of n bytes is stored at place k
abbrev pub stores : Cells → ℕ → ℕ → ℕ → Bool
stores cs most k n = nat_lt k (length cs) && (not (is_some (cell_at cs k)) && (frame_sized n && room_at cs most k n))

-- what a look tells of a place
abbrev pub frame_length : Cell → Option ℕ
frame_length None = None
frame_length (Some f) = Some (length f)

-- whether a place's frame is copied to an output of n bytes
abbrev pub copies : Cell → ℕ → Bool
copies None n = false
copies (Some f) n = nat_le (length f) n

-- the output once the place was copied to it
abbrev pub copied : Cell → List ℕ → List ℕ
copied None out = out
copied (Some f) out = cond (nat_le (length f) (length out)) (f ++ drop (length f) out) out

-- whether a frame of n bytes that is stored at place k and copied to an output of m bytes comes back whole
abbrev pub comes_back : Cells → ℕ → ℕ → ℕ → ℕ → Bool
comes_back cs most k n m = stores cs most k n && nat_le n m
