mod ItemLemmas
mod KeptLemmas
mod Marking
mod Replays
mod Rows
mod Tears
mod Torn
