mod FedNext
mod Numbered
