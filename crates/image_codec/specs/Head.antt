-- What stands in the head of a body, but its version
use Rattle.turnout.specs.Turnout.{number_came}
use Rattle.image_codec.specs.declared.codec.head.Head.{Head}
use Rattle.image_codec.specs.State.{State}

abbrev pub head_of : State → Head
head_of s = record { phase = s.phase; came = number_came s.came }
