-- What is read off a queue.
use Rattle.std.specs.Prelude.{List, [], ◌∷◌, Some, None, Option}
use Rattle.frames.specs.declared.types.Frame.{Frame as CFrame}
use Rattle.frames.specs.Values.{Ack, Message, Frame, data_frame}
use Rattle.frames.specs.declared.types.Ack.{Ack as CAck}
use Rattle.frames.specs.Types.{ack_meant, frame_of}

-- the ACK that is meant
abbrev pub top_of : Option CAck → Option Ack
top_of None = None
top_of (Some a) = Some (ack_meant a)

-- one frame, or none
abbrev pub put_of : Option CFrame → List Frame
put_of None = []
put_of (Some f) = frame_of f ∷ []

-- the frame of a message, or none
abbrev pub data_put : Option Message → List Frame
data_put None = []
data_put (Some m) = data_frame m ∷ []
