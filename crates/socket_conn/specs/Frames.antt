-- How many frames the message under way has, told from the bytes that came (RFC 6455, section 5.2).
use Rattle.std.specs.Prelude.{ℕ, zero, suc, ◌+◌, ◌-◌, ◌*◌, ◌%◌, ◌^◌, ◌==◌, ◌||◌, nat_lt, nat_le, min, fold, if◌then◌else◌, Bool, false, List}
use Rattle.socket_conn.specs.declared.frames.FrameCount.{FrameCount}
use Rattle.socket_conn.specs.declared.frames.Place.{Place}
use Rattle.socket_conn.specs.declared.frames.Place.TheVariants.{Payload, Second, Length}

-- how many frames a message may have
abbrev pub most_frames : ℕ
most_frames = 1024

-- nothing came: a header is to come
abbrev pub no_frames : FrameCount
no_frames = record { place = Payload 0; frames = 0; is_over = false }

-- the message under way has one data frame more, and where that is its last, the next message has none yet
abbrev pub with_frame : (is_last : Bool) → FrameCount → FrameCount
with_frame is_last c =
    let frames = min (c.frames + 1) (2 ^ 32 - 1) in
    record c { frames = if is_last then 0 else frames; is_over = c.is_over || nat_lt most_frames frames }

-- a header begins: its first byte has FIN and the opcode, which is below 8 for a data frame
abbrev pub begun : FrameCount → ℕ → FrameCount
begun c byte = record (if nat_lt (byte % 16) 8 then with_frame (nat_le 128 byte) c else c) { place = Second }

-- how many bytes the mask has: the second byte of a header tells whether there is one
abbrev pub mask_bytes : ℕ → ℕ
mask_bytes byte = if nat_le 128 byte then 4 else 0

-- what follows the second byte: a length of 2 or of 8 bytes, or the mask and the payload
abbrev pub after_second : ℕ → Place
after_second byte =
    if byte % 128 == 126 then Length 2 0 (mask_bytes byte)
    else if byte % 128 == 127 then Length 8 0 (mask_bytes byte) else Payload (byte % 128 + mask_bytes byte)

-- what follows a byte of the length, of which so many were to come
abbrev pub after_length : (left so_far mask byte : ℕ) → Place
after_length left so_far mask byte =
    let len = (so_far * 256 + byte) % 2 ^ 64 in
    if nat_le left 1 then Payload (min (len + mask) (2 ^ 64 - 1)) else Length (left - 1) len mask

-- one byte more, at this place
abbrev pub step_at : Place → FrameCount → ℕ → FrameCount
step_at (Payload zero) c byte = begun c byte
step_at (Payload (suc left)) c byte = record c { place = Payload left }
step_at Second c byte = record c { place = after_second byte }
step_at (Length left so_far mask) c byte = record c { place = after_length left so_far mask byte }

abbrev pub step : FrameCount → ℕ → FrameCount
step c byte = step_at c.place c byte

-- these bytes more
abbrev pub walked : FrameCount → List ℕ → FrameCount
walked c bytes = fold step c bytes
