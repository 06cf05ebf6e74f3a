-- Messages that are pending, by source and number.
use Rattle.std.specs.Prelude.{ℕ, Some, None, Option}
use Rattle.frames.specs.Values.{Message}
use Rattle.frames.specs.Types.{message_meant}
use Rattle.head.specs.Head.{Kept, Pending}
use Rattle.head.specs.Ranges.{kept_message}
use Rattle.frames.specs.declared.types.Message.{Message as CMessage}

-- what is kept, as a message with its source and number
abbrev pub kept_under : ℕ → ℕ → Option Kept → Option Message
kept_under s k None = None
kept_under s k (Some p) = Some (kept_message s k p)

-- the message that is pending under a source and number, if there is one
abbrev pub kept_at : Pending → ℕ → ℕ → Option Message
kept_at p s k = kept_under s k (p s k)

-- a message of the code
abbrev pub sent_of : Option CMessage → Option Message
sent_of None = None
sent_of (Some m) = Some (message_meant m)
