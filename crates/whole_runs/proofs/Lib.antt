pub mod PairLogs
