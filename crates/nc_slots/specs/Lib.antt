pub mod SlotWords
