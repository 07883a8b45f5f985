pub mod Bag
pub mod Counters
pub mod BagData
pub mod RdvData
pub mod RecordText
pub mod Laws
